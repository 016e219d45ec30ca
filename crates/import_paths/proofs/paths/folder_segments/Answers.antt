use Rattle.std.proofs.Common.{ℕ, List, ◌∙◌, ap, lit<}
use Rattle.std.specs.List.{slice_split}
use Rattle.std.proofs.lemmas.Iterator.Consumers.{YieldsList-at, YieldsList-end}
use Rattle.std.proofs.lemmas.Iterator.Splits.{YieldsList-from_str_split}
use Rattle.import_paths.specs.Paths.{is_slash, without_last}
use Rattle.import_paths.proofs.Walks.{without_last-popped}
use Rattle.import_paths.proofs.paths.folder_segments.Goals as goal

pub returns : goal.returns
returns c =
    let parts = YieldsList-from_str_split 47 c.behind.result.now (lit< tt) c.split-segment-items.ensures.text c.split-segment-items.ensures.has_more c.split-segment-items.ensures.pattern in
    let ended = YieldsList-end (YieldsList-at c.into_iter-segment-iterator.ensures.into_iter_gives parts) c.loop-segment.yielded _ c.loop-segment.yielded_by _ _ c.in-None.is c.next.ensures.steps in
    let split : List ℕ → List (List ℕ) = λ text. slice_split is_slash text in
    without_last-popped c.loop-segment.folder c.pop-file.new.self c.pop-file.result c.pop-file.ensures
    ∙ ap without_last (c.loop-segment.invariant ∙ (ended.0 ∙ ap split c.behind.ensures))

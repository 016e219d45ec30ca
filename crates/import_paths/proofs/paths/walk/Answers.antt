use Rattle.std.proofs.Common.{ℕ, Bool, List, ◌∷◌, [], ◌∙◌, length, sym, ap, map, lit<, Option, Some, None}
use Rattle.std.specs.Prelude.{if◌then◌else◌}
use Rattle.std.specs.List.{slice_split}
use Rattle.std.proofs.lemmas.List.{map-append}
use Rattle.std.proofs.lemmas.Iterator.Consumers.{YieldsList-at, YieldsList-turn, YieldsList-end, YieldsList-so_far}
use Rattle.std.proofs.lemmas.Iterator.Splits.{YieldsList-from_str_split}
use Rattle.import_paths.specs.Paths.{is_slash, walk as walk_of}
use Rattle.import_paths.proofs.Walks.{walk-push, walk-cut}
use Rattle.import_paths.proofs.paths.walk.Goals as goal

pub loop-segment-preserved : goal.loop-segment-preserved
loop-segment-preserved c =
    let segment = c.in-Some.segment in
    let so_far = map (λ s. s.now) c.loop-segment.yielded in
    let leads : Bool → Option (List (List ℕ)) = λ goes_on. if goes_on then Some c.take_segment.new.folder else None in
    ap (walk_of c.args.folder) (map-append (λ s. s.now) c.loop-segment.yielded (segment ∷ []))
    ∙ walk-push c.args.folder so_far segment.now c.loop-segment.folder c.take_segment.new.folder c.loop-segment.invariant (c.in_ok-take_segment.ensures ∙ ap leads c.if-not-branch.false)

pub returns-then-not-branch : goal.returns-then-not-branch
returns-then-not-branch c =
    let segment = c.in-Some.segment in
    let leads : Bool → Option (List (List ℕ)) = λ goes_on. if goes_on then Some c.take_segment.new.folder else None in
    let parts = YieldsList-from_str_split 47 c.args.path.now (lit< tt) c.split-segment-items.ensures.text c.split-segment-items.ensures.has_more c.split-segment-items.ensures.pattern in
    let all = YieldsList-at c.into_iter-segment-iterator.ensures.into_iter_gives parts in
    let front = YieldsList-so_far all c.loop-segment.yielded _ c.loop-segment.yielded_by in
    let turn = YieldsList-turn all c.loop-segment.yielded _ c.loop-segment.yielded_by _ _ segment c.in-Some.is c.next.ensures.steps in
    sym (walk-cut c.args.folder (slice_split is_slash c.args.path.now) (map (λ s. s.now) c.loop-segment.yielded) (length c.loop-segment.yielded) segment.now c.loop-segment.folder front turn.0 turn.1
    c.loop-segment.invariant (c.in_ok-take_segment.ensures ∙ ap leads c.if-not-branch.true))

pub returns : goal.returns
returns c =
    let parts = YieldsList-from_str_split 47 c.args.path.now (lit< tt) c.split-segment-items.ensures.text c.split-segment-items.ensures.has_more c.split-segment-items.ensures.pattern in
    let ended = YieldsList-end (YieldsList-at c.into_iter-segment-iterator.ensures.into_iter_gives parts) c.loop-segment.yielded _ c.loop-segment.yielded_by _ _ c.in-None.is c.next.ensures.steps in
    sym c.loop-segment.invariant ∙ ap (walk_of c.args.folder) ended.0

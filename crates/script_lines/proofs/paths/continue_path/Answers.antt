use Rattle.std.proofs.Common.{◌≡◌, ◌∷◌, [], ◌∙◌, sym, ap, map, lit<, Some}
use Rattle.std.proofs.lemmas.List.{map-append}
use Rattle.std.proofs.lemmas.Iterator.Consumers.{YieldsList-at, YieldsList-turn, YieldsList-end}
use Rattle.std.proofs.lemmas.Iterator.Splits.{YieldsList-from_str_split}
use Rattle.script_lines.specs.Paths.{step_of}
use Rattle.script_lines.proofs.Following.{longer, longer-push, longer-none}
use Rattle.script_lines.proofs.paths.continue_path.Goals as goal

pub loop-part-preserved : goal.loop-part-preserved
loop-part-preserved c =
    let part = c.in-Some.part in
    let read : step_of part.now ≡ Some c.in-Some-2.step = sym c.in_ok-step.ensures ∙ c.in-Some-2.is in
    let pushed = longer-push c.args.path c.loop-part.path (map (λ p. p.now) c.loop-part.yielded) part.now c.in-Some-2.step c.loop-part.invariant read in
    ap (longer c.args.path) (map-append (λ p. p.now) c.loop-part.yielded (part ∷ [])) ∙ (pushed ∙ ap (λ path. Some path) (sym c.in_ok-push-in-Some-2.ensures.ok))

pub returns-in-None-2 : goal.returns-in-None-2
returns-in-None-2 c =
    let parts = YieldsList-from_str_split 46 c.args.text.now (lit< tt) c.split-part-items.ensures.text c.split-part-items.ensures.has_more c.split-part-items.ensures.pattern in
    let turn = YieldsList-turn (YieldsList-at c.into_iter-part-iterator.ensures.into_iter_gives parts) c.loop-part.yielded _ c.loop-part.yielded_by _ _ c.in-Some.part c.in-Some.is c.next.ensures.steps in
    sym (longer-none c.args.path _ _ c.in-Some.part.now turn.0 turn.1 (sym c.in_ok-step.ensures ∙ c.in-None-2.is))

pub returns : goal.returns
returns c =
    let parts = YieldsList-from_str_split 46 c.args.text.now (lit< tt) c.split-part-items.ensures.text c.split-part-items.ensures.has_more c.split-part-items.ensures.pattern in
    let ended = YieldsList-end (YieldsList-at c.into_iter-part-iterator.ensures.into_iter_gives parts) c.loop-part.yielded _ c.loop-part.yielded_by _ _ c.in-None.is c.next.ensures.steps in
    sym c.loop-part.invariant ∙ ap (longer c.args.path) ended.0

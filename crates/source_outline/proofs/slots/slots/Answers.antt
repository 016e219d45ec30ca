use Rattle.std.proofs.Common.{refl, ◌∙◌, ap, ◌++◌}
use Rattle.source_outline.specs.Slots.{body_slots, element_slots}
use Rattle.source_outline.proofs.Turns.{turn, ended}
use Rattle.source_outline.proofs.slots.slots.Goals as goal

pub loop-element-preserved : goal.loop-element-preserved
loop-element-preserved c = turn (λ n xs. element_slots n xs) (body_slots c.loop-element.element 0 c.index-written-element.result.body) c.args.written.now c.loop-element.element c.index-written-element.result c.loop-element.made c.push_slots.new.out _
    refl c.index-written-element.is c.loop-element-test.true (c.in_ok-push_slots.ensures ∙ ap (λ xs. c.loop-element.made ++ body_slots c.loop-element.element 0 xs) c.body.ensures) c.loop-element.invariant

pub returns : goal.returns
returns c = ended (λ n xs. element_slots n xs) c.args.written.now c.loop-element.element c.loop-element.made _ refl c.loop-element-test.false c.loop-element.invariant

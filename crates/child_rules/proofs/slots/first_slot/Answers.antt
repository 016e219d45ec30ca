use Rattle.std.proofs.Common.{◌∙◌, ap}
use Rattle.std.specs.List.{flat_map}
use Rattle.fault_order.specs.Order.{first_of}
use Rattle.child_rules.specs.Children.{at_slot_of, at_slots_of}
use Rattle.fault_order.proofs.Told.{told_end, told_turn}
use Rattle.child_rules.proofs.slots.first_slot.Goals as goal

pub loop-element-preserved : goal.loop-element-preserved
loop-element-preserved c = told_turn at_slots_of c.args.written.now c.loop-element.element-index c.element-item.result c.loop-element.first c.earlier-first.result c.element-item.is c.loop-element-test.true (c.first_in_body.ensures ∙ ap (λ items. first_of (flat_map at_slot_of items)) c.body.ensures) c.earlier-first.ensures c.loop-element.invariant

pub returns : goal.returns
returns c = told_end at_slots_of c.args.written.now c.loop-element.element-index c.loop-element.first c.loop-element-test.false c.loop-element.invariant

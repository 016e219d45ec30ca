use Rattle.child_rules.specs.Children.{at_slot_of}
use Rattle.fault_order.proofs.Told.{told_end, told_turn}
use Rattle.child_rules.proofs.slots.first_in_body.Goals as goal

pub loop-item-preserved : goal.loop-item-preserved
loop-item-preserved c = told_turn at_slot_of c.args.items.now c.loop-item.item-index c.item-item.result c.loop-item.first c.earlier-first.result c.item-item.is c.loop-item-test.true c.at_slot.ensures c.earlier-first.ensures c.loop-item.invariant

pub returns : goal.returns
returns c = told_end at_slot_of c.args.items.now c.loop-item.item-index c.loop-item.first c.loop-item-test.false c.loop-item.invariant

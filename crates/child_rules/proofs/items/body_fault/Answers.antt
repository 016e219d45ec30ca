use Rattle.child_rules.specs.Children.{one_item_faults}
use Rattle.fault_order.proofs.Told.{told_end, told_turn}
use Rattle.child_rules.proofs.items.body_fault.Goals as goal

pub loop-item-preserved : goal.loop-item-preserved
loop-item-preserved c = told_turn (one_item_faults c.args.places.now c.args.body.component c.args.body.element c.args.slot) c.args.items.now c.loop-item.item-index c.item-item.result c.loop-item.first c.earlier-first.result c.item-item.is c.loop-item-test.true c.in_ok-fault.ensures c.earlier-first.ensures c.loop-item.invariant

pub returns : goal.returns
returns c = told_end (one_item_faults c.args.places.now c.args.body.component c.args.body.element c.args.slot) c.args.items.now c.loop-item.item-index c.loop-item.first c.loop-item-test.false c.loop-item.invariant

use Rattle.item_rules.specs.Items.{change_faults}
use Rattle.fault_order.proofs.Told.{told_end, told_turn}
use Rattle.item_rules.proofs.items.state_fault.Goals as goal

pub loop-change-preserved : goal.loop-change-preserved
loop-change-preserved c = told_turn (change_faults c.args.body.now) c.args.changes.now c.loop-change.change-index c.change-item.result c.loop-change.first c.earlier-first.result c.change-item.is c.loop-change-test.true c.in_ok-path_fault.ensures c.earlier-first.ensures c.loop-change.invariant

pub returns : goal.returns
returns c = told_end (change_faults c.args.body.now) c.args.changes.now c.loop-change.change-index c.loop-change.first c.loop-change-test.false c.loop-change.invariant

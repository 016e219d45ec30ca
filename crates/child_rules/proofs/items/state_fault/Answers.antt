use Rattle.std.proofs.Common.{◌∙◌, ap}
use Rattle.std.specs.List.{flat_map}
use Rattle.fault_order.specs.Order.{first_of}
use Rattle.child_rules.specs.Children.{change_faults}
use Rattle.fault_order.proofs.Told.{told_end, told_turn}
use Rattle.child_rules.proofs.items.state_fault.Goals as goal

pub loop-change-preserved : goal.loop-change-preserved
loop-change-preserved c = told_turn (change_faults c.args.places.now c.args.body.component c.args.body.element) c.as_slice-changes.result.now c.loop-change.change-index c.change-item.result c.loop-change.first c.earlier-first.result c.change-item.is c.loop-change-test.true c.in_ok-fault.ensures c.earlier-first.ensures c.loop-change.invariant

pub returns : goal.returns
returns c = told_end (change_faults c.args.places.now c.args.body.component c.args.body.element) c.as_slice-changes.result.now c.loop-change.change-index c.loop-change.first c.loop-change-test.false c.loop-change.invariant
    ∙ ap (λ changes. first_of (flat_map (change_faults c.args.places.now c.args.body.component c.args.body.element) changes)) c.as_slice-changes.ensures

use Rattle.std.proofs.Common.{Option, ◌∙◌, ap}
use Rattle.slint_base.specs.declared.faults.Fault.{Fault}
use Rattle.fault_order.specs.Order.{earlier_of}
use Rattle.loop_check.specs.Graphs.{faults_of}
use Rattle.loop_check.proofs.Listing.{turn_first}
use Rattle.loop_check.proofs.purity.first_fault.Goals as goal

pub loop-body-preserved : goal.loop-body-preserved
loop-body-preserved c =
    turn_first (faults_of c.args.tree.now c.args.spread.now) c.args.bodies.now c.loop-body.body-index c.body-item.result c.loop-body.first c.earlier-first.result c.loop-body-test.true c.body-item.is c.loop-body.invariant
    (c.earlier-first.ensures ∙ ap (λ (z : Option Fault). earlier_of c.loop-body.first z) c.body_fault.ensures)

use Rattle.std.proofs.Common.{Option, ◌∙◌, ap}
use Rattle.slint_base.specs.declared.faults.Fault.{Fault}
use Rattle.fault_order.specs.Order.{earlier_of}
use Rattle.loop_check.specs.Graphs.{fault_of}
use Rattle.loop_check.proofs.Listing.{turn_first_or}
use Rattle.loop_check.proofs.purity.acts_fault.Goals as goal

pub loop-act-preserved : goal.loop-act-preserved
loop-act-preserved c =
    turn_first_or (fault_of c.args.spread.now c.args.rule) c.args.acts.now c.loop-act.act-index _ c.loop-act.first c.earlier-first.result c.loop-act-test.true c.loop-act.invariant
    (c.earlier-first.ensures ∙ ap (λ (z : Option Fault). earlier_of c.loop-act.first z) c.act_fault.ensures)

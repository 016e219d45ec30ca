use Rattle.inliner.proofs.Sizing.{known_begin, known_turn}
use Rattle.inliner.proofs.measuring.measured_in_order.Goals as goal

pub loop-component-init : goal.loop-component-init
loop-component-init c = known_begin c.args.comps.now c.in_ok-table.table c.in_ok-table.ensures

pub loop-component-preserved : goal.loop-component-preserved
loop-component-preserved c = known_turn c.loop-component.component-index c.args.comps.now c.loop-component.table _ c.in_ok-note.ensures c.loop-component.invariant

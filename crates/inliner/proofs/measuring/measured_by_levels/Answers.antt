use Rattle.inliner.proofs.Sizing.{levels_go}
use Rattle.inliner.proofs.measuring.measured_by_levels.Goals as goal

pub loop-preserved : goal.loop-preserved
loop-preserved c = levels_go c.args.comps.now c.loop.counter c.loop.table c.as_slice.result.now _ c.as_slice.ensures c.in_ok-table-2.ensures c.loop.invariant

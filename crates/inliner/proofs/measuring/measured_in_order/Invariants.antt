use Rattle.inliner.specs.Extents.{AreKnown}
use Rattle.inliner.proofs.measuring.measured_in_order.Given as goal

abbrev pub invariant-loop-component : goal.invariant-loop-component
invariant-loop-component l = AreKnown l.component-index l.comps l.table

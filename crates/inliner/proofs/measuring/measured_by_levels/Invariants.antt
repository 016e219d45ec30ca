use Rattle.inliner.specs.Extents.{AreExtents}
use Rattle.inliner.proofs.measuring.measured_by_levels.Given as goal

abbrev pub invariant-loop : goal.invariant-loop
invariant-loop l = AreExtents l.counter l.comps l.table

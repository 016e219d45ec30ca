use Rattle.property_cells.specs.Marks.{pending}
use Rattle.property_cells.proofs.MarkingLoops.{points_left}
use Rattle.property_cells.proofs.HitsLoop.{HitsSoFar}
use Rattle.property_cells.specs.Changed.{Changed}
use Rattle.property_cells.proofs.marks.Marks.mark_hits.Given as goal

abbrev pub invariant-loop-at : goal.invariant-loop-at
invariant-loop-at l = HitsSoFar l.deps.pairs l.points.entries.items l.cell (Changed l.change) (pending l.initial.self) l.at (pending l.self)

abbrev pub decreases-loop-at : goal.decreases-loop-at
decreases-loop-at l = points_left l.at

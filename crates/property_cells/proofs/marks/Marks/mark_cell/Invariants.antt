use Rattle.property_cells.specs.Marks.{pending}
use Rattle.property_cells.proofs.MarkingLoops.{MarksPoints, points_left}
use Rattle.property_cells.proofs.marks.Marks.mark_cell.Given as goal

abbrev pub invariant-loop-at : goal.invariant-loop-at
invariant-loop-at l = MarksPoints l.deps.pairs l.points.entries.items l.cell (pending l.initial.self) l.at (pending l.self)

abbrev pub decreases-loop-at : goal.decreases-loop-at
decreases-loop-at l = points_left l.at

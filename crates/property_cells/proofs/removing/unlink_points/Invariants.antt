use Rattle.property_cells.proofs.MarkingLoops.{points_left}
use Rattle.property_cells.proofs.BlockLoops.{Unlinks}
use Rattle.property_cells.proofs.removing.unlink_points.Given as goal

abbrev pub invariant-loop-at : goal.invariant-loop-at
invariant-loop-at l = Unlinks l.points.entries.items l.cell l.initial.deps l.at l.deps

abbrev pub decreases-loop-at : goal.decreases-loop-at
decreases-loop-at l = points_left l.at

use Rattle.property_cells.proofs.MarkingLoops.{points_left}
use Rattle.property_cells.proofs.PointLemmas.{SearchSoFar}
use Rattle.property_cells.proofs.points.Points.find.Given as goal

abbrev pub invariant-loop-at : goal.invariant-loop-at
invariant-loop-at l = SearchSoFar l.self.entries.items l.cell l.facet l.at

abbrev pub decreases-loop-at : goal.decreases-loop-at
decreases-loop-at l = points_left l.at

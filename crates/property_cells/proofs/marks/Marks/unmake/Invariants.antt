use Rattle.property_cells.specs.Marks.{pending}
use Rattle.property_cells.proofs.Threads.{weight}
use Rattle.property_cells.proofs.UnmakingLoop.{Unmakes_on}
use Rattle.property_cells.proofs.marks.Marks.unmake.Given as goal

abbrev pub invariant-loop-cell : goal.invariant-loop-cell
invariant-loop-cell l = Unmakes_on l.deps.pairs l.points.entries.items (pending l.initial.self) (pending l.self)

abbrev pub decreases-loop-cell : goal.decreases-loop-cell
decreases-loop-cell l = weight l.self.cells.items

use Rattle.property_cells.specs.Marks.{pending, AreWritten}
use Rattle.property_cells.proofs.marks.Marks.set_all.Given as goal

abbrev pub invariant-loop-cell : goal.invariant-loop-cell
invariant-loop-cell l = AreWritten (pending l.initial.self) (pending l.self) l.first l.cell l.state

use Rattle.property_cells.specs.Removing.{AreDropped}
use Rattle.property_cells.proofs.removing.drop_values.Given as goal

abbrev pub invariant-loop-cell : goal.invariant-loop-cell
invariant-loop-cell l = AreDropped l.initial.values l.values l.first l.cell

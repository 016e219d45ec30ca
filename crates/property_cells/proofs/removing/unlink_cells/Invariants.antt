use Rattle.property_cells.proofs.BlockLoops.{UnlinksCells}
use Rattle.property_cells.proofs.removing.unlink_cells.Given as goal

abbrev pub invariant-loop-cell : goal.invariant-loop-cell
invariant-loop-cell l = UnlinksCells l.points.entries.items l.first l.initial.deps l.cell l.deps

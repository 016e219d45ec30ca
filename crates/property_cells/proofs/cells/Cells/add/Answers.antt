use Rattle.property_cells.proofs.Seen.{kept}
use Rattle.property_cells.proofs.cells.Cells.add.Goals as goal

pub returns-clause-kept : goal.returns-clause-kept
returns-clause-kept c = kept _ c.add.ensures.held

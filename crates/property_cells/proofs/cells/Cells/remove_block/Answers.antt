use Rattle.property_cells.proofs.Seen.{kept}
use Rattle.property_cells.proofs.cells.Cells.remove_block.Goals as goal

pub returns-clause-kept : goal.returns-clause-kept
returns-clause-kept c = kept _ c.remove_block.ensures.held

use Rattle.property_cells.proofs.Seen.{kept}
use Rattle.property_cells.proofs.cells.Cells.note_read.Goals as goal

pub returns-clause-kept : goal.returns-clause-kept
returns-clause-kept c = kept _ c.note_read.ensures.held

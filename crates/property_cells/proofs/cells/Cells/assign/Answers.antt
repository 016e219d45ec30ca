use Rattle.std.proofs.Common.{◌≡◌, [], ◌⊎◌, sym, subst}
use Rattle.property_cells.specs.Net.{Net, cell_in, invalid_cell, InNoPair}
use Rattle.property_cells.proofs.Seen.{kept}
use Rattle.property_cells.proofs.cells.Cells.assign.Goals as goal

pub assign-requires-clause-idle : goal.assign-requires-clause-idle
assign-requires-clause-idle c = subst (λ (n : Net). (n.running ≡ []) ⊎ ((cell_in n c.args.cell ≡ invalid_cell) × InNoPair c.args.cell n.pairs)) (sym c.self.view_is) c.requires.idle

pub returns-clause-kept : goal.returns-clause-kept
returns-clause-kept c = kept _ c.assign.ensures.held

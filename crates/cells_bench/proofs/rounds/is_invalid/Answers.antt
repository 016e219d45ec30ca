use Rattle.std.proofs.Common.{ap, ◌∙◌, sym, Some}
use Rattle.property_cells.specs.Net.{cell_in}
use Rattle.cells_bench.proofs.Rests.{idle_live, is_invalid, stands_else}
use Rattle.cells_bench.proofs.rounds.is_invalid.Goals as goal

pub state_of-requires : goal.state_of-requires
state_of-requires c = idle_live (cell_in c.args.cells.now c.args.cell) c.requires

pub returns-in-Invalid : goal.returns-in-Invalid
returns-in-Invalid c = is_invalid (cell_in c.args.cells.now c.args.cell) (c.state_of.ensures ∙ ap Some c.in-Invalid.is)

pub returns-in_default : goal.returns-in_default
returns-in_default c = stands_else (cell_in c.args.cells.now c.args.cell) c.state_of.result c.requires c.state_of.ensures c.in_default.not-Invalid

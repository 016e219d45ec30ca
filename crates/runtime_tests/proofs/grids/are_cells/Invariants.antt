use Rattle.std.proofs.Common.{All, take}
use Rattle.layout_solve.specs.Tracks.{IsCell}
use Rattle.runtime_tests.proofs.grids.are_cells.Given as goal

-- the cells so far are cells
abbrev pub invariant-loop-cell : goal.invariant-loop-cell
invariant-loop-cell l = All (IsCell l.tracks) (take l.cell-index l.cells)

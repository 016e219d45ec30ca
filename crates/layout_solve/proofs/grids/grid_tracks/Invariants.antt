use Rattle.layout_solve.proofs.Widening.{IsWidening}
use Rattle.layout_solve.proofs.grids.grid_tracks.Given as goal

-- the tracks are those of the cells so far
abbrev pub invariant-loop-cell : goal.invariant-loop-cell
invariant-loop-cell l = IsWidening l.cells l.fn.spacing l.initial.tracks l.tracks l.cell-index

use Rattle.layout_solve.proofs.TrackSteps.{IsTopping}
use Rattle.layout_solve.proofs.grids.raise_alone.Given as goal

-- the tracks are raised by the cells so far that stand in them alone, and are items
abbrev pub invariant-loop-cell : goal.invariant-loop-cell
invariant-loop-cell l = IsTopping l.cells l.initial.tracks l.tracks l.cell-index

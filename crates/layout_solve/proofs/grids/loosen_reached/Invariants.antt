use Rattle.std.proofs.Common.{◌≡◌, ℕ, get_or, take}
use Rattle.std.specs.List.{fold}
use Rattle.layout_solve.specs.Tracks.{empty_track, loose_track, reaches}
use Rattle.layout_solve.proofs.TrackSteps.{marked}
use Rattle.layout_solve.proofs.grids.loosen_reached.Given as goal

-- the tracks that a cell so far reaches are loose
abbrev pub invariant-loop-cell : goal.invariant-loop-cell
invariant-loop-cell l =
    (t : ℕ) → get_or l.tracks t empty_track ≡ fold (marked (reaches t) loose_track) (get_or l.initial.tracks t empty_track) (take l.cell-index l.cells)

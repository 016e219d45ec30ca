use Rattle.std.proofs.Common.{◌≡◌, ℕ, get_or, take}
use Rattle.std.specs.List.{fold}
use Rattle.layout_solve.specs.Tracks.{empty_track, least_track, is_alone}
use Rattle.layout_solve.proofs.TrackSteps.{marked}
use Rattle.layout_solve.proofs.grids.begin_alone.Given as goal

-- the tracks in which a cell so far stands alone are the least
abbrev pub invariant-loop-cell : goal.invariant-loop-cell
invariant-loop-cell l =
    (t : ℕ) → get_or l.tracks t empty_track ≡ fold (marked (is_alone t) least_track) (get_or l.initial.tracks t empty_track) (take l.cell-index l.cells)

use Rattle.std.proofs.Common.{◌≡◌, ℕ, ◌<◌, get_or}
use Rattle.layout_solve.specs.Tracks.{empty_track}
use Rattle.layout_solve.proofs.grids.clear.Given as goal

-- the tracks so far are empty
abbrev pub invariant-loop-track : goal.invariant-loop-track
invariant-loop-track l = (k : ℕ) → k < l.track-index → get_or l.tracks k empty_track ≡ empty_track

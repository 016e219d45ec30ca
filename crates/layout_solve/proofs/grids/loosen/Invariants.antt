use Rattle.std.proofs.Common.{◌≡◌, ℕ, cond, ◌&&◌, leb, ltb, get_or}
use Rattle.layout_solve.specs.Tracks.{empty_track, loose_track}
use Rattle.layout_solve.proofs.grids.loosen.Given as goal

-- the tracks from the first to before this one are loose
abbrev pub invariant-loop-track : goal.invariant-loop-track
invariant-loop-track l =
    (t : ℕ) → get_or l.tracks t empty_track ≡ cond (leb l.first t && ltb t l.track) loose_track (get_or l.initial.tracks t empty_track)

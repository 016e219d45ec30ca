use Rattle.std.proofs.Common.{⊎_elim, arith}
use Rattle.std.proofs.lemmas.Bool.{cases_lt}
use Rattle.std.proofs.lemmas.List.{get_or_past}
use Rattle.layout_solve.specs.Tracks.{empty_track}
use Rattle.layout_solve.proofs.grids.clear.Goals as goal

pub returns-clause-empty : goal.returns-clause-empty
returns-clause-empty c t =
    ⊎_elim (λ below. c.loop-track.invariant t below) (λ past. get_or_past c.loop-track.tracks t empty_track (omega arith)) (cases_lt t c.loop-track.track-index)

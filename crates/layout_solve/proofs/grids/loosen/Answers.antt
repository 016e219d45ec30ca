use Rattle.std.proofs.Common.{◌≡◌, cond, ◌&&◌, leb, ltb, get_or, ap, ◌∙◌, arith}
use Rattle.layout_solve.specs.Tracks.{empty_track, loose_track}
use Rattle.layout_solve.proofs.TrackSteps.{range-none, range-set}
use Rattle.layout_solve.proofs.grids.loosen.Goals as goal

pub loop-track-init : goal.loop-track-init
loop-track-init c t = range-none c.args.first t _ _

pub loop-track-preserved : goal.loop-track-preserved
loop-track-preserved c t = range-set c.loop-track.tracks c.args.first c.loop-track.track t _ _ _ (omega arith) (omega arith) (c.loop-track.invariant t)

pub returns-clause-loose : goal.returns-clause-loose
returns-clause-loose c t =
    let same : c.loop-track.track ≡ c.args.end = omega arith in
    c.loop-track.invariant t ∙ ap (λ n. cond (leb c.args.first t && ltb t n) loose_track (get_or c.args.tracks.now t empty_track)) same

use Rattle.std.proofs.Common.{get_or, ap, ◌∙◌, refl, arith}
use Rattle.layout_solve.specs.Tracks.{empty_track}
use Rattle.layout_solve.proofs.TrackSteps.{folded-more, marked_all, reached-yes, reached-no, no_cell}
use Rattle.layout_solve.proofs.grids.loosen_reached.Goals as goal
use Rattle.layout_solve.proofs.grids.loosen_reached.Goals.{then-cell-gt1, else-cell-gt1}

pub loop-cell-init : goal.loop-cell-init
loop-cell-init c t = refl

pub loosen-requires : goal.loosen-requires
loosen-requires c =
    let is = c.requires c.loop-cell.cell-index no_cell c.loop-cell-test.true in
    record { order = omega arith; inside = omega (arith, is.inside, c.loop-cell.auto.tracks) }

pub loop-cell-preserved : goal.loop-cell-preserved
loop-cell-preserved c t =
    let cell = get_or c.args.cells.now c.loop-cell.cell-index no_cell in
    folded-more _ _ (get_or c.loop-cell.tracks t empty_track) _ c.args.cells.now c.loop-cell.cell-index _ c.loop-cell-test.true (c.loop-cell.invariant t)
    (elim c.if-cell-gt1.branch [
      | then-cell-gt1 w ↦ reached-yes t cell _ _ w.if-cell-gt1.true (ap (λ xs. get_or xs t empty_track) w.tracks-is ∙ w.loosen.ensures.loose t)
      | else-cell-gt1 w ↦ reached-no t cell _ _ w.if-cell-gt1.false (ap (λ xs. get_or xs t empty_track) w.tracks-is)
    ])

pub returns-clause-loose : goal.returns-clause-loose
returns-clause-loose c t = marked_all _ _ _ _ _ c.loop-cell.cell-index c.loop-cell-test.false (c.loop-cell.invariant t)

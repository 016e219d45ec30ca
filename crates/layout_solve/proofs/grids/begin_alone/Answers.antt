use Rattle.std.proofs.Common.{get_or, ap, ◌∙◌, refl, arith}
use Rattle.layout_solve.specs.Tracks.{empty_track, least_track}
use Rattle.layout_solve.proofs.TrackSteps.{folded-more, marked_all, alone-yes, alone-no, get_or-set_cond, no_cell}
use Rattle.layout_solve.proofs.grids.begin_alone.Goals as goal
use Rattle.layout_solve.proofs.grids.begin_alone.Goals.{then-cell-eq1, else-cell-eq1}

pub loop-cell-init : goal.loop-cell-init
loop-cell-init c t = refl

pub loop-cell-preserved : goal.loop-cell-preserved
loop-cell-preserved c t =
    let is = c.requires c.loop-cell.cell-index no_cell c.loop-cell-test.true in
    let cell = get_or c.args.cells.now c.loop-cell.cell-index no_cell in
    folded-more _ _ (get_or c.loop-cell.tracks t empty_track) _ c.args.cells.now c.loop-cell.cell-index _ c.loop-cell-test.true (c.loop-cell.invariant t)
    (elim c.if-cell-eq1.branch [
      | then-cell-eq1 w ↦
          alone-yes t cell least_track _ _ w.if-cell-eq1.true
          (ap (λ xs. get_or xs t empty_track) w.tracks-is ∙ get_or-set_cond c.loop-cell.tracks _ t _ _ (omega (arith, is.inside, is.spans, c.loop-cell.auto.tracks)))
      | else-cell-eq1 w ↦ alone-no t cell least_track _ _ w.if-cell-eq1.false (ap (λ xs. get_or xs t empty_track) w.tracks-is)
    ])

pub returns-clause-least : goal.returns-clause-least
returns-clause-least c t = marked_all _ _ _ _ _ c.loop-cell.cell-index c.loop-cell-test.false (c.loop-cell.invariant t)

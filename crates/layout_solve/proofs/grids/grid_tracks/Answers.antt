use Rattle.std.proofs.Common.{length, get_or, All, ap, subst, sym, ◌∙◌}
use Rattle.layout_solve.specs.Items.{IsItem}
use Rattle.layout_solve.proofs.TrackSteps.{no_cell}
use Rattle.layout_solve.proofs.Widening.{widening-more, widened-no}
use Rattle.layout_solve.proofs.grids.grid_tracks.Goals as goal
use Rattle.layout_solve.proofs.grids.grid_tracks.Goals.{then-cell-gt1, else-cell-gt1}

pub loop-cell-preserved : goal.loop-cell-preserved
loop-cell-preserved c =
    let cell = get_or c.args.cells.now c.loop-cell.cell-index no_cell in
    let h = c.loop-cell.invariant in
    elim c.if-cell-gt1.branch [
      | then-cell-gt1 w ↦
          widening-more c.args.cells.now _ _ c.loop-cell.tracks _ c.loop-cell.cell-index _ h c.loop-cell-test.true
          (w.tracks-is ∙ w.widen.ensures.widened)
          (ap length w.tracks-is ∙ w.widen.ensures.length)
          (subst (All IsItem) (sym w.tracks-is) w.widen.ensures.items)
      | else-cell-gt1 w ↦
          widening-more c.args.cells.now _ _ c.loop-cell.tracks _ c.loop-cell.cell-index _ h c.loop-cell-test.true
          (w.tracks-is ∙ widened-no _ c.loop-cell.tracks cell w.if-cell-gt1.false)
          (ap length w.tracks-is)
          (subst (All IsItem) (sym w.tracks-is) h.items)
    ]

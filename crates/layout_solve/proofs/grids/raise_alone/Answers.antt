use Rattle.std.proofs.Common.{◌<◌, length, get_or, All, ap, subst, sym, ◌∙◌, refl, arith}
use Rattle.std.proofs.lemmas.List.Elements.{All-set}
use Rattle.layout_solve.specs.Items.{IsItem}
use Rattle.layout_solve.specs.Tracks.{empty_track}
use Rattle.layout_solve.proofs.Greatest.{greatest_item-is, topped-set}
use Rattle.layout_solve.proofs.TrackSteps.{folded-more, topped_all, topped-yes, topped-no, no_cell}
use Rattle.layout_solve.proofs.grids.raise_alone.Goals as goal
use Rattle.layout_solve.proofs.grids.raise_alone.Goals.{then-cell-eq1, else-cell-eq1}

pub loop-cell-init : goal.loop-cell-init
loop-cell-init c = record { raised = λ t. refl; items = c.requires.tracks }

pub greatest-requires : goal.greatest-requires
greatest-requires c =
    let is = c.requires.cells c.loop-cell.cell-index no_cell c.loop-cell-test.true in
    record { a = c.loop-cell.invariant.items _ empty_track (omega (arith, is.inside, is.spans, c.loop-cell.auto.tracks)); b = is.item_is }

pub loop-cell-preserved : goal.loop-cell-preserved
loop-cell-preserved c =
    let cell = get_or c.args.cells.now c.loop-cell.cell-index no_cell in
    let is = c.requires.cells c.loop-cell.cell-index no_cell c.loop-cell-test.true in
    let h = c.loop-cell.invariant in
    elim c.if-cell-eq1.branch [
      | then-cell-eq1 w ↦
          let inside : cell.first < length c.loop-cell.tracks = omega (arith, is.inside, is.spans, c.loop-cell.auto.tracks) in
          record {
            raised = λ t.
                folded-more _ _ (get_or c.loop-cell.tracks t empty_track) _ c.args.cells.now c.loop-cell.cell-index _ c.loop-cell-test.true (h.raised t)
                (topped-yes t cell _ _ w.if-cell-eq1.true
                (ap (λ xs. get_or xs t empty_track) w.tracks-is ∙ topped-set c.loop-cell.tracks cell.first t cell.item _ empty_track inside w.greatest.ensures));
            items = subst (All IsItem) (sym w.tracks-is) (All-set IsItem c.loop-cell.tracks cell.first _ (subst IsItem (sym w.greatest.ensures) (greatest_item-is _ _ (h.items _ empty_track inside) is.item_is)) h.items);
          }
      | else-cell-eq1 w ↦ record {
        raised = λ t.
            folded-more _ _ (get_or c.loop-cell.tracks t empty_track) _ c.args.cells.now c.loop-cell.cell-index _ c.loop-cell-test.true (h.raised t)
            (topped-no t cell _ _ w.if-cell-eq1.false (ap (λ xs. get_or xs t empty_track) w.tracks-is));
        items = subst (All IsItem) (sym w.tracks-is) h.items;
      }
    ]

pub returns-clause-raised : goal.returns-clause-raised
returns-clause-raised c t = topped_all _ _ _ _ c.loop-cell.cell-index c.loop-cell-test.false (c.loop-cell.invariant.raised t)

use Rattle.std.proofs.Common.{◌≡◌, ◌-◌, pos, ◌*ℤ◌, ap, ◌∙◌, w64}
use Rattle.std.proofs.lemmas.Int.{to_z-of_z}
use Rattle.std.proofs.lemmas.List.Elements.{All-set}
use Rattle.layout_solve.specs.Items.{IsItem}
use Rattle.layout_solve.proofs.Growth.{item_min, item_pref}
use Rattle.layout_solve.proofs.Widening.{IsGap, widened-by}
use Rattle.layout_solve.proofs.grids.widen.Goals as goal

pub returns-clause-widened : goal.returns-clause-widened
returns-clause-widened c =
    let between = c.spacings-between.ensures in
    let span = c.args.cell.now.span in
    let gap : IsGap c.spacings-between.result = record { low = between.low; high = between.high } in
    let gap_is : c.spacings-between.result ≡ pos (span - 1) *ℤ c.args.spacing = between.value ∙ ap (λ z. pos (span - 1) *ℤ z) (to_z-of_z w64 c.args.spacing c.ranges.spacing) in
    let least = c.lacking-more_min.ensures in
    let pref = c.lacking-more_pref.ensures in
    widened-by c.args.spacing c.args.tracks.now c.args.cell.now c.spacings-between.result c.lacking-more_min.result c.lacking-more_pref.result c.raised.result c.requires.several
    (record { within = item_min _ c.requires.cell.item_is; gap = gap; gap_is = gap_is; some = least.some; small = least.small; is = least.value })
    (record { within = item_pref _ c.requires.cell.item_is; gap = gap; gap_is = gap_is; some = pref.some; small = pref.small; is = pref.value })
    c.raised.ensures.raised

pub returns-clause-items : goal.returns-clause-items
returns-clause-items c = All-set IsItem _ _ _ c.raised.ensures.item c.requires.tracks

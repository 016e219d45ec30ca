use Rattle.std.proofs.Common.{subst, sym}
use Rattle.layout_solve.specs.Items.{IsItem}
use Rattle.layout_solve.proofs.Growth.{item_min, item_pref}
use Rattle.layout_solve.proofs.Raising.{raised_track-is, more-is, raised-by}
use Rattle.layout_solve.proofs.grids.raised.Goals as goal

pub returns : goal.returns
returns c =
    let r = c.requires in
    let least = more-is _ _ _ _ (item_min _ r.track) r.some_min r.small_min c.from.ensures c.saturated-min.ensures in
    let pref = more-is _ _ _ _ (item_pref _ r.track) r.some_pref r.small_pref c.from-2.ensures c.saturated-pref.ensures in
    let same = raised-by _ _ _ _ _ _ _ _ r.track least pref c.max-max.ensures.value c.max.ensures.value c.min.ensures.value in
    record { raised = same; item = subst IsItem (sym same) (raised_track-is _ _ _ r.track) }

use Rattle.layout_solve.proofs.Greatest.{same_item, most-is}
use Rattle.layout_solve.proofs.Growth.{item_min, item_pref, item_max, item_weight}
use Rattle.layout_solve.proofs.grids.greatest.Goals as goal

pub returns : goal.returns
returns c =
    let a = c.requires.a in
    let b = c.requires.b in
    same_item _ _ _ _ _ _ _ _
    (most-is _ _ _ (item_min _ a) (item_min _ b) c.max.ensures.value)
    (most-is _ _ _ (item_pref _ a) (item_pref _ b) c.max-2.ensures.value)
    (most-is _ _ _ (item_max _ a) (item_max _ b) c.max-3.ensures.value)
    (most-is _ _ _ (item_weight _ a) (item_weight _ b) c.max-4.ensures.value)

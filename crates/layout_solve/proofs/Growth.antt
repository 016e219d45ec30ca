-- The code's size of an item by a level is that of the definition.
use Rattle.std.proofs.Common.{◌≡◌, ℕ, ◌^◌, ◌<◌, ℤ, pos, ◌+ℤ◌, ◌-ℤ◌, ◌*ℤ◌, Bool, ◌∙◌, arith, FitsSigned, to_z, of_z}
use Rattle.std.specs.Int.{w64, w128, int_min, int_max}
use Rattle.std.proofs.lemmas.Int.{ints, clamps}
use Rattle.layout_solve.specs.declared.items.Item.{Item}
use Rattle.layout_solve.specs.Items.{IsItem, IsWithinLimits}
use Rattle.layout_solve.specs.Sizes.{weight_in, grown, shrunk}
use Rattle.layout_solve.proofs.ItemSizes.{IsWeight, weight_in-is, gain, grown-is}
use Rattle.layout_solve.proofs.Wide.{IsHeld, held_fits, kept, kept-is, kept_within, both, within-is}

pub item_pref : (item : Item) → IsItem item → IsWithinLimits item.pref
item_pref item is = record { low = omega (arith, ints, is.low, is.ordered); high = omega (arith, ints, is.topped, is.high) }

pub item_max : (item : Item) → IsItem item → IsWithinLimits item.max
item_max item is = record { low = omega (arith, ints, is.low, is.ordered, is.topped); high = is.high }

pub item_min : (item : Item) → IsItem item → IsWithinLimits item.min
item_min item is = record { low = is.low; high = omega (arith, ints, is.ordered, is.topped, is.high) }

-- what a level adds, in 128 bits
product-is : (by : ℕ) (w b d : ℤ) → by < 2 ^ 64 → IsWeight w → b ≡ pos by → d ≡ w → kept (kept b *ℤ kept d) ≡ pos by *ℤ w
product-is by w b d short is p q =
    let g = gain by w short is in
    kept-is _ _
    (both (λ x y. x *ℤ y) (kept b) (kept d) (pos by) w
    (kept-is b (pos by) p (record { low = omega (arith, ints); high = omega (arith, ints) }))
    (kept-is d w q (record { low = omega (arith, ints, is.some); high = omega (arith, ints, is.light) })))
    (record { low = omega (arith, ints, g.some); high = omega (arith, ints, g.light) })

-- what the code has of an item and a level: its preferred size, the level, the weight that counts and its greatest size
pub record IsRead (even : Bool) (by : ℕ) (item : Item) (a b d : ℤ) : Type 0 where
  pub item_is : IsItem item
  pub short : by < 2 ^ 64
  pub pref : a ≡ to_z w64 (of_z w64 item.pref)
  pub level : b ≡ pos by
  pub weight : d ≡ to_z w64 (of_z w64 (weight_in even item))

weight_within : (even : Bool) (item : Item) → IsItem item → IsWithinLimits (weight_in even item)
weight_within even item is =
    let w = weight_in-is even item is in
    record { low = omega (arith, ints, w.some); high = omega (arith, ints, w.light) }

-- what an item wants at a level, in 128 bits
pub wanted-held : (even : Bool) (by : ℕ) (item : Item) → IsItem item → by < 2 ^ 64 → IsHeld (item.pref +ℤ pos by *ℤ weight_in even item)
wanted-held even by item is short =
    let g = gain by (weight_in even item) short (weight_in-is even item is) in
    let w = item_pref item is in
    record { low = omega (arith, ints, g.some, w.low); high = omega (arith, ints, g.light, w.high) }

wanted-is : (even : Bool) (by : ℕ) (item : Item) (a b d : ℤ) → IsRead even by item a b d
    → kept a +ℤ kept (kept b *ℤ kept d) ≡ item.pref +ℤ pos by *ℤ weight_in even item
wanted-is even by item a b d r =
    both (λ x y. x +ℤ y) (kept a) (kept (kept b *ℤ kept d)) item.pref (pos by *ℤ weight_in even item)
    (kept_within a item.pref (within-is a item.pref (item_pref item r.item_is) r.pref) (item_pref item r.item_is))
    (product-is by (weight_in even item) b d r.short (weight_in-is even item r.item_is) r.level (within-is d _ (weight_within even item r.item_is) r.weight))

pub wanted-fits : (even : Bool) (by : ℕ) (item : Item) (a b d : ℤ) → IsRead even by item a b d → FitsSigned w128 (kept a +ℤ kept (kept b *ℤ kept d))
wanted-fits even by item a b d r = rw (wanted-is even by item a b d r) (held_fits _ (wanted-held even by item r.item_is r.short))

pub grown_within : (even : Bool) (by : ℕ) (item : Item) → IsItem item → by < 2 ^ 64 → IsWithinLimits (grown even by item)
grown_within even by item is short =
    let g = grown-is even by item is short in
    record { low = omega (arith, ints, g.low, is.low, is.ordered); high = omega (arith, ints, g.high, is.high) }

pub grown-by : (even : Bool) (by : ℕ) (item : Item) (a b d e m : ℤ) → IsRead even by item a b d → e ≡ to_z w64 (of_z w64 item.max)
    → m ≡ int_min (kept e) (kept (kept a +ℤ kept (kept b *ℤ kept d))) → m ≡ grown even by item
grown-by even by item a b d e m r s t =
    let top = item_max item r.item_is in
    t ∙ both int_min (kept e) (kept (kept a +ℤ kept (kept b *ℤ kept d))) item.max (item.pref +ℤ pos by *ℤ weight_in even item)
    (kept_within e item.max (within-is e item.max top s) top)
    (kept-is _ _ (wanted-is even by item a b d r) (wanted-held even by item r.item_is r.short))

-- what an item wants that shrinks, in 128 bits
pub shrunk-by : (by : ℕ) (item : Item) (a b e m : ℤ) → IsItem item → by < 2 ^ 64 → a ≡ to_z w64 (of_z w64 item.pref) → b ≡ pos by → e ≡ to_z w64 (of_z w64 item.min)
    → m ≡ int_max (kept e) (kept (kept a -ℤ kept b)) → m ≡ shrunk by item
shrunk-by by item a b e m is short p q s t =
    let pref = item_pref item is in
    let low = item_min item is in
    t ∙ both int_max (kept e) (kept (kept a -ℤ kept b)) item.min (item.pref -ℤ pos by)
    (kept_within e item.min (within-is e item.min low s) low)
    (kept-is _ _
    (both (λ x y. x -ℤ y) (kept a) (kept b) item.pref (pos by)
    (kept_within a item.pref (within-is a item.pref pref p) pref)
    (kept-is b (pos by) q (record { low = omega (arith, ints); high = omega (arith, ints) })))
    (record { low = omega (arith, ints, pref.low); high = omega (arith, ints, pref.high) }))

pub shrunk_within : (by : ℕ) (item : Item) → IsItem item → IsWithinLimits (shrunk by item)
shrunk_within by item is =
    record { low = omega (arith, ints, clamps, is.low); high = omega (arith, ints, clamps, is.ordered, is.topped, is.high) }

-- what is left of an item's weight and greatest size
pub left-is : (even : Bool) (by : ℕ) (item : Item) (w g m : ℤ) → IsItem item → by < 2 ^ 64 → w ≡ weight_in even item → g ≡ grown even by item
    → m ≡ int_min (to_z w64 (of_z w64 w)) (to_z w64 (of_z w64 (to_z w64 (of_z w64 item.max) -ℤ to_z w64 (of_z w64 g))))
    → to_z w64 (of_z w64 m) ≡ int_min (weight_in even item) (item.max -ℤ grown even by item)
left-is even by item w g m is short p q r =
    let a = weight_in-is even item is in
    let b = grown-is even by item is short in
    let d = grown_within even by item is short in
    let e = item_max item is in
    omega (arith, ints, clamps, p, q, r, a.some, a.light, b.low, b.high, d.low, d.high, e.low, e.high)

pub item_weight : (item : Item) → IsItem item → IsWithinLimits item.weight
item_weight item is = record { low = omega (arith, ints, is.weighs); high = omega (arith, ints, is.light) }

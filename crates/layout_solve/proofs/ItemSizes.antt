-- Sizes of one item by a level.
use Rattle.std.proofs.Common.{◌≡◌, ℕ, ◌*◌, ◌^◌, ◌<◌, ℤ, pos, negsuc, ◌*ℤ◌, ◌≤ℤ◌, ◌≤◌, Bool, true, false, arith}
use Rattle.std.proofs.Math.Nat.{mul-le-mul_right}
use Rattle.std.proofs.lemmas.Nat.{mul-le}
use Rattle.std.proofs.lemmas.Int.{ints, clamps}
use Rattle.slint_base.specs.Numbers.{most_units}
use Rattle.layout_solve.specs.declared.items.Item.{Item}
use Rattle.layout_solve.specs.Items.{IsItem}
use Rattle.layout_solve.specs.Sizes.{weight_in, grown, shrunk}

-- a weight that counts is from 0 to 1,000,000
pub record IsWeight (w : ℤ) : Type 0 where
  pub some : pos 0 ≤ℤ w
  pub light : w ≤ℤ pos 1000000

pub weight_in-is : (even : Bool) (item : Item) → IsItem item → IsWeight (weight_in even item)
weight_in-is true item is = record { some = omega (arith, ints); light = omega (arith, ints) }
weight_in-is false item is = record { some = is.weighs; light = is.light }

-- what a level adds is no loss, and far within 128 bits
pub record IsGain (z : ℤ) : Type 0 where
  pub some : pos 0 ≤ℤ z
  pub light : z ≤ℤ pos (2 ^ 84)

pub gain : (k : ℕ) (w : ℤ) → k < 2 ^ 64 → IsWeight w → IsGain (pos k *ℤ w)
gain k (pos n) short is =
    let light : n ≤ 1000000 = omega (arith, ints, is.light) in
    let product = mul-le k n (2 ^ 64) 1000000 (omega arith) light in
    record { some = omega (arith, ints); light = omega (arith, ints, product) }
gain k (negsuc n) short is = absurd (omega (arith, ints, is.some))

-- a higher level gains no less
pub gain-rises : (j k : ℕ) (w : ℤ) → j ≤ k → pos 0 ≤ℤ w → (pos j *ℤ w) ≤ℤ (pos k *ℤ w)
gain-rises j k (pos n) le some = omega (arith, ints, mul-le-mul_right n le)
gain-rises j k (negsuc n) le some = absurd (omega (arith, ints, some))

pub gain-none : (w : ℤ) → pos 0 *ℤ w ≡ pos 0
gain-none (pos n) = omega (arith, ints)
gain-none (negsuc n) = omega (arith, ints)

-- a size by growing is from the preferred to the greatest size
pub record IsGrown (item : Item) (z : ℤ) : Type 0 where
  pub low : item.pref ≤ℤ z
  pub high : z ≤ℤ item.max

pub grown-is : (even : Bool) (k : ℕ) (item : Item) → IsItem item → k < 2 ^ 64 → IsGrown item (grown even k item)
grown-is even k item is short =
    let g = gain k (weight_in even item) short (weight_in-is even item is) in
    record { low = omega (arith, ints, clamps, g.some, is.topped); high = omega (arith, ints, clamps) }

pub grown-rises : (even : Bool) (j k : ℕ) (item : Item) → IsItem item → j ≤ k → grown even j item ≤ℤ grown even k item
grown-rises even j k item is le =
    let g = gain-rises j k (weight_in even item) le ((weight_in-is even item is).some) in omega (arith, ints, clamps, g)

pub grown-none : (even : Bool) (item : Item) → IsItem item → grown even 0 item ≡ item.pref
grown-none even item is = omega (arith, ints, clamps, gain-none (weight_in even item), is.topped)

pub shrunk-falls : (j k : ℕ) (item : Item) → j ≤ k → shrunk k item ≤ℤ shrunk j item
shrunk-falls j k item le = omega (arith, ints, clamps)

pub shrunk-all : (item : Item) → IsItem item → shrunk (2 * most_units) item ≡ item.min
shrunk-all item is = omega (arith, ints, clamps, is.low, is.ordered, is.topped, is.high)

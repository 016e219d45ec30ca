-- What every way of sizing keeps to.
use Rattle.std.proofs.Common.{◌≡◌, ℕ, ℤ, pos, ◌+ℤ◌, ◌-ℤ◌, ◌*ℤ◌, ◌≤ℤ◌, Bool, true, false, refl, cond, arith}
use Rattle.std.proofs.lemmas.Int.{ints, clamps}
use Rattle.std.specs.Prelude.{int_le}
use Rattle.layout_solve.specs.declared.items.Item.{Item}
use Rattle.layout_solve.specs.declared.sizings.Sizing.{Sizing}
use Rattle.layout_solve.specs.declared.sizings.Sizing.TheVariants.{Least, Preferred, Grown, Shrunk}
use Rattle.layout_solve.specs.Items.{IsItem, IsWithinLimits}
use Rattle.layout_solve.specs.Sizes.{weight_in, shrunk, size_at, more_at}
use Rattle.layout_solve.proofs.ItemSizes.{weight_in-is, gain-rises, gain-none}

gains : (even : Bool) (k : ℕ) (item : Item) → IsItem item → pos 0 ≤ℤ (pos k *ℤ weight_in even item)
gains even k item is =
    let w = weight_in even item in
    omega (arith, ints, gain-rises 0 k w (omega arith) ((weight_in-is even item is).some), gain-none w)

-- a size is from the least to the greatest one
pub record IsSize (item : Item) (z : ℤ) : Type 0 where
  pub low : item.min ≤ℤ z
  pub high : z ≤ℤ item.max

pub size_at-is : (sizing : Sizing) (item : Item) → IsItem item → IsSize item (size_at sizing item)
size_at-is Least item is = record { low = omega (arith, ints); high = omega (arith, ints, is.ordered, is.topped) }
size_at-is Preferred item is = record { low = is.ordered; high = is.topped }
size_at-is (Grown even k) item is =
    let g = gains even k item is in
    record { low = omega (arith, ints, clamps, g, is.ordered, is.topped); high = omega (arith, ints, clamps) }
size_at-is (Shrunk k) item is =
    record { low = omega (arith, ints, clamps); high = omega (arith, ints, clamps, is.ordered, is.topped) }

pub size_within : (sizing : Sizing) (item : Item) → IsItem item → IsWithinLimits (size_at sizing item)
size_within sizing item is =
    let s = size_at-is sizing item is in
    record { low = omega (arith, ints, s.low, is.low); high = omega (arith, ints, s.high, is.high) }

-- what may be had more isn't less than nothing, and no more than a unit above what the greatest size allows
pub record IsMore (item : Item) (size more : ℤ) : Type 0 where
  pub some : pos 0 ≤ℤ more
  pub fits : (size +ℤ more) ≤ℤ (item.max +ℤ pos 1)

shrunk_high : (k : ℕ) (item : Item) → IsItem item → shrunk k item ≤ℤ item.max
shrunk_high k item is = omega (arith, ints, clamps, is.ordered, is.topped)

one_more : (b : Bool) (item : Item) (k : ℕ) → IsItem item → int_le item.min (item.pref -ℤ pos k) ≡ b → IsMore item (shrunk k item) (cond b (pos 1) (pos 0))
one_more true item k is e =
    record { some = omega (arith, ints); fits = omega (arith, ints, shrunk_high k item is) }
one_more false item k is e =
    let s = shrunk_high k item is in
    record { some = omega (arith, ints); fits = omega (arith, ints, s) }

pub more_at-is : (sizing : Sizing) (item : Item) → IsItem item → IsMore item (size_at sizing item) (more_at sizing item)
more_at-is Least item is = record { some = omega (arith, ints); fits = omega (arith, ints, is.ordered, is.topped) }
more_at-is Preferred item is = record { some = omega (arith, ints); fits = omega (arith, ints, is.topped) }
more_at-is (Grown even k) item is =
    let g = gains even k item is in
    let w = (weight_in-is even item is).some in
    record { some = omega (arith, ints, clamps, g, w, is.topped); fits = omega (arith, ints, clamps) }
more_at-is (Shrunk k) item is = one_more _ item k is refl

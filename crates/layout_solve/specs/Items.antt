-- What holds of the numbers and items of a layout.
use Rattle.std.specs.Prelude.{ℤ, pos, neg_ℤ, ◌≤ℤ◌}
use Rattle.slint_base.specs.Numbers.{most_units}
use Rattle.layout_solve.specs.declared.items.Item.{Item}

-- a number of units that a property can have
pub record IsWithinLimits (z : ℤ) : Type 0 where
  pub low : neg_ℤ (pos most_units) ≤ℤ z
  pub high : z ≤ℤ pos most_units

-- the least size is at most the preferred one, and that at most the greatest; the weight is from 0 to 1,000,000
pub record IsItem (item : Item) : Type 0 where
  pub low : neg_ℤ (pos most_units) ≤ℤ item.min
  pub ordered : item.min ≤ℤ item.pref
  pub topped : item.pref ≤ℤ item.max
  pub high : item.max ≤ℤ pos most_units
  pub weighs : pos 0 ≤ℤ item.weight
  pub light : item.weight ≤ℤ pos 1000000

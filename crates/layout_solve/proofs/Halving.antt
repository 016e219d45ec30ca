-- Levels found by halving.
use Rattle.std.proofs.Common.{◌≡◌, ℕ, ◌+◌, ◌*◌, ◌<◌, ◌≤◌, ℤ, ◌≤ℤ◌, ◌<ℤ◌, Bool, List, map, All, subst, ⊎_elim, ◌-◌, arith}
use Rattle.std.proofs.lemmas.Int.{ints}
use Rattle.std.proofs.lemmas.Bool.{cases_lt}
use Rattle.std.proofs.lemmas.List.Elements.{recursion_from_All}
use Rattle.slint_base.specs.Numbers.{most_units}
use Rattle.layout_solve.specs.declared.items.Item.{Item}
use Rattle.layout_solve.specs.Items.{IsItem}
use Rattle.layout_solve.specs.Sizes.{total, grown, shrunk, are_weightless, preferred_sum, least_sum, FitsGrown, FitsShrunk, IsGreatest, IsLeast}
use Rattle.layout_solve.proofs.ItemSizes.{grown-rises, grown-none, shrunk-falls, shrunk-all}
use Rattle.layout_solve.proofs.Totals.{total-map-le, total-map_same}

-- a higher level takes no less room
pub grown_total-rises : (items : List Item) (even : Bool) (j k : ℕ) → All IsItem items → j ≤ k → total (map (grown even j) items) ≤ℤ total (map (grown even k) items)
grown_total-rises items even j k all le = total-map-le IsItem (grown even j) (grown even k) (λ item is. grown-rises even j k item is le) items (recursion_from_All IsItem items all)

pub shrunk_total-falls : (items : List Item) (j k : ℕ) → All IsItem items → j ≤ k → total (map (shrunk k) items) ≤ℤ total (map (shrunk j) items)
shrunk_total-falls items j k all le = total-map-le IsItem (shrunk k) (shrunk j) (λ item is. shrunk-falls j k item le) items (recursion_from_All IsItem items all)

-- between two levels, of which the lower one fits and none past the higher one does
pub record IsBetween (items : List Item) (room : ℤ) (low high : ℕ) : Type 0 where
  pub ordered : low ≤ high
  pub has : FitsGrown items room low
  pub bound : (j : ℕ) → FitsGrown items room j → j ≤ high
  pub within : high ≤ most_units

pub between-first : (items : List Item) (room : ℤ) → All IsItem items → preferred_sum items ≤ℤ room → IsBetween items room 0 most_units
between-first items room all fits = record {
  ordered = omega arith;
  has = record {
    within = omega arith;
    fits = omega (arith, ints, fits, total-map_same IsItem (grown (are_weightless items) 0) (λ item. item.pref) (grown-none (are_weightless items)) items (recursion_from_All IsItem items all));
  };
  bound = λ j f. f.within;
  within = omega arith;
}

pub between-raised : (items : List Item) (room : ℤ) (low middle high : ℕ) → IsBetween items room low high → middle ≤ high → total (map (grown (are_weightless items) middle) items) ≤ℤ room
    → IsBetween items room middle high
between-raised items room low middle high h le fits = record {
  ordered = le;
  has = record { within = omega (arith, h.within); fits = fits };
  bound = h.bound;
  within = h.within;
}

pub between-lowered : (items : List Item) (room : ℤ) (low middle high : ℕ) → All IsItem items → IsBetween items room low high → low < middle → middle ≤ high → room <ℤ total (map (grown (are_weightless items) middle) items)
    → IsBetween items room low (middle - 1)
between-lowered items room low middle high all h above le over = record {
  ordered = omega arith;
  has = h.has;
  bound = λ j f. below j f;
  within = omega (arith, h.within);
}
  where
    below : (j : ℕ) → FitsGrown items room j → j ≤ middle - 1
    below j f = ⊎_elim (λ lt. omega arith) (λ ge. absurd (omega (arith, ints, f.fits, over, grown_total-rises items (are_weightless items) middle j all ge))) (cases_lt j middle)

pub between-last : (items : List Item) (room : ℤ) (low high : ℕ) → IsBetween items room low high → high ≤ low → IsGreatest (FitsGrown items room) low
between-last items room low high h le = record { has = h.has; bound = λ j f. let b = h.bound j f in omega (arith, b, le) }

-- between two numbers of units, of which the higher one fits and none before the lower one does
pub record IsAround (items : List Item) (room : ℤ) (low high : ℕ) : Type 0 where
  pub ordered : low ≤ high
  pub has : FitsShrunk items room high
  pub bound : (j : ℕ) → FitsShrunk items room j → low ≤ j
  pub within : high ≤ 2 * most_units

pub around-first : (items : List Item) (room : ℤ) → All IsItem items → least_sum items ≤ℤ room → IsAround items room 0 (2 * most_units)
around-first items room all fits = record {
  ordered = omega arith;
  has = record { fits = omega (arith, ints, fits, total-map_same IsItem (shrunk (2 * most_units)) (λ item. item.min) shrunk-all items (recursion_from_All IsItem items all)) };
  bound = λ j f. omega arith;
  within = omega arith;
}

pub around-lowered : (items : List Item) (room : ℤ) (low middle high : ℕ) → IsAround items room low high → low ≤ middle → middle ≤ high → total (map (shrunk middle) items) ≤ℤ room
    → IsAround items room low middle
around-lowered items room low middle high h ge le fits = record {
  ordered = ge;
  has = record { fits = fits };
  bound = h.bound;
  within = omega (arith, h.within);
}

pub around-raised : (items : List Item) (room : ℤ) (low middle high : ℕ) → All IsItem items → IsAround items room low high → middle < high → room <ℤ total (map (shrunk middle) items)
    → IsAround items room (middle + 1) high
around-raised items room low middle high all h le over = record {
  ordered = omega arith;
  has = h.has;
  bound = λ j f. above j f;
  within = h.within;
}
  where
    above : (j : ℕ) → FitsShrunk items room j → middle + 1 ≤ j
    above j f = ⊎_elim (λ lt. omega arith) (λ ge. absurd (omega (arith, ints, f.fits, over, shrunk_total-falls items j middle all ge))) (cases_lt middle j)

pub around-last : (items : List Item) (room : ℤ) (low high : ℕ) → IsAround items room low high → high ≤ low → IsLeast (FitsShrunk items room) low
around-last items room low high h le =
    let same : high ≡ low = omega (arith, h.ordered, le) in
    let P : ℕ → Type 0 = FitsShrunk items room in
    record { has = subst P same h.has; bound = h.bound }

-- Exact sums of lists.
use Rattle.std.proofs.Common.{◌≡◌, ℕ, ◌+◌, ◌*◌, ◌^◌, ◌<◌, ◌≤◌, ℤ, pos, neg_ℤ, ◌+ℤ◌, ◌≤ℤ◌, List, [], ◌∷◌, ◌++◌, map, length, get_or, take, sym, ap, ◌∙◌, take_all, refl, arith}
use Rattle.std.specs.List.{AllByRecursion}
use Rattle.std.proofs.lemmas.Int.{ints}
use Rattle.std.proofs.lemmas.List.{take_more, map-append}
use Rattle.slint_base.specs.Numbers.{most_units}
use Rattle.layout_solve.specs.Items.{IsWithinLimits}
use Rattle.layout_solve.specs.Sizes.{total}
use Rattle.layout_solve.proofs.Wide.{IsHeld}

pub total-append : (xs ys : List ℤ) → total (xs ++ ys) ≡ total xs +ℤ total ys
total-append [] ys = omega (arith, ints)
total-append (x ∷ xs) ys = omega (arith, ints, total-append xs ys)

pub total_push : (xs : List ℤ) (x : ℤ) → total (xs ++ x ∷ []) ≡ total xs +ℤ x
total_push xs x = omega (arith, ints, total-append xs (x ∷ []))

-- one more element
pub total-map_more : {X : Type 0} (f : X → ℤ) (xs : List X) (i : ℕ) (d : X) → i < length xs → total (map f (take (i + 1) xs)) ≡ total (map f (take i xs)) +ℤ f (get_or xs i d)
total-map_more f xs i d within =
    ap (λ ys. total (map f ys)) (take_more xs i d within)
    ∙ ap total (map-append f (take i xs) (get_or xs i d ∷ []))
    ∙ total_push (map f (take i xs)) (f (get_or xs i d))

-- sums of what is no more at each element
pub total-map-le : {X : Type 0} (P : X → Type 0) (f g : X → ℤ) → ((x : X) → P x → f x ≤ℤ g x) → (xs : List X) → AllByRecursion P xs → total (map f xs) ≤ℤ total (map g xs)
total-map-le P f g le [] all = omega (arith, ints)
total-map-le P f g le (x ∷ xs) all = omega (arith, ints, le x all.0, total-map-le P f g le xs all.1)

-- sums of what is the same at each element
pub total-map_same : {X : Type 0} (P : X → Type 0) (f g : X → ℤ) → ((x : X) → P x → f x ≡ g x) → (xs : List X) → AllByRecursion P xs → total (map f xs) ≡ total (map g xs)
total-map_same P f g same [] all = refl
total-map_same P f g same (x ∷ xs) all = ap (λ y. y +ℤ total (map f xs)) (same x all.0) ∙ ap (λ y. g x +ℤ y) (total-map_same P f g same xs all.1)

-- a sum of so many elements so far, each within the limits
pub record IsSummed {X : Type 0} (f : X → ℤ) (xs : List X) (i : ℕ) (sum : ℤ) : Type 0 where
  pub is : sum ≡ total (map f (take i xs))
  pub low : neg_ℤ (pos (most_units * i)) ≤ℤ sum
  pub high : sum ≤ℤ pos (most_units * i)

pub summed-none : {X : Type 0} (f : X → ℤ) (xs : List X) → IsSummed f xs 0 (pos 0)
summed-none f xs = record { is = refl; low = omega (arith, ints); high = omega (arith, ints) }

pub summed-more : {X : Type 0} (f : X → ℤ) (xs : List X) (i : ℕ) (d : X) (old new : ℤ) → IsSummed f xs i old → i < length xs → IsWithinLimits (f (get_or xs i d)) → new ≡ old +ℤ f (get_or xs i d)
    → IsSummed f xs (i + 1) new
summed-more f xs i d old new h within fx e = record {
  is = e ∙ ap (λ z. z +ℤ f (get_or xs i d)) h.is ∙ sym (total-map_more f xs i d within);
  low = omega (arith, ints, e, h.low, fx.low);
  high = omega (arith, ints, e, h.high, fx.high);
}

-- the whole sum
pub summed_all : {X : Type 0} (f : X → ℤ) (xs : List X) (i : ℕ) (sum : ℤ) → IsSummed f xs i sum → length xs ≤ i → sum ≡ total (map f xs)
summed_all f xs i sum h past = h.is ∙ ap (λ ys. total (map f ys)) (take_all i xs past)

-- a sum that a summand is added to is far within 128 bits
pub summed_held : {X : Type 0} (f : X → ℤ) (xs : List X) (i : ℕ) (sum y : ℤ) → IsSummed f xs i sum → i < 2 ^ 64 → IsWithinLimits y → IsHeld (sum +ℤ y)
summed_held f xs i sum y h short is = record { low = omega (arith, ints, h.low, is.low, short); high = omega (arith, ints, h.high, is.high, short) }

pub summed_wide : {X : Type 0} (f : X → ℤ) (xs : List X) (i : ℕ) (sum : ℤ) → IsSummed f xs i sum → i < 2 ^ 64 → IsHeld sum
summed_wide f xs i sum h short = record { low = omega (arith, ints, h.low, short); high = omega (arith, ints, h.high, short) }

-- Keys that differ and lie below the next fresh one.
use Rattle.std.proofs.Common.{◌≡◌, ℕ, zero, suc, ◌+◌, ◌<◌, ◌≤◌, false, List, [], ◌∷◌, length, get_or, sym, refl, arith}
use Rattle.std.specs.Prelude.{nat_eq, insert, remove}
use Rattle.std.specs.List.{AllByRecursion, IsDistinct}
use Rattle.std.proofs.lemmas.Bool.{ne_eqb}
use Rattle.std.proofs.lemmas.Bool.Decides.{nat_tests}
use Rattle.std.proofs.lemmas.List.Elements.{All-cons, All-tail}
use Rattle.std.proofs.lemmas.List.Sorted.{All-permutation, IsPermutation-insert, IsPermutation-remove}
use Rattle.std.proofs.lemmas.Map.Keys.{IsDistinct-cons, IsDistinct-tail, IsDistinct-IsPermutation}
use Rattle.row_models.specs.Rows.{keys_from, AreApart}
use Rattle.row_models.proofs.KeyRuns.{length-keys_from}

differs_from_all : (key : ℕ) (keys : List ℕ) → ((i : ℕ) → i < length keys → get_or keys i 0 ≡ key → ⊥) → AllByRecursion (λ k. nat_eq key k ≡ false) keys
differs_from_all key [] differ = tt
differs_from_all key (k ∷ ks) differ = (ne_eqb key k (λ e. differ zero (omega arith) (sym e)), differs_from_all key ks (λ i lt. differ (suc i) (omega arith)))

same_turned : (a b : ℕ) → nat_eq a b ≡ nat_eq b a
same_turned a b = grind (arith, nat_tests)

none_apart : IsDistinct nat_eq []
unfolding IsDistinct
none_apart = tt

-- ---- keys in a row

get_or-keys_from : (key count i d : ℕ) → i < count → get_or (keys_from key count) i d ≡ key + i
get_or-keys_from key zero i d lt = absurd (omega (arith, lt))
get_or-keys_from key (suc count) zero d lt = omega arith
get_or-keys_from key (suc count) (suc i) d lt = let e = get_or-keys_from (key + 1) count i d (omega (arith, lt)) in omega (arith, e)

distinct_from : (key count : ℕ) → IsDistinct nat_eq (keys_from key count)
distinct_from key zero = none_apart
distinct_from key (suc count) =
    IsDistinct-cons nat_eq key (keys_from (key + 1) count)
    (differs_from_all key (keys_from (key + 1) count) (λ i lt e.
    let l = length-keys_from (key + 1) count in
    let at = get_or-keys_from (key + 1) count i 0 (omega (arith, l, lt)) in
    absurd (omega (arith, at, e))))
    (distinct_from (key + 1) count)

pub from_apart : (key count next : ℕ) → key + count ≤ next → AreApart (keys_from key count) next
from_apart key count next le = record {
  distinct = distinct_from key count;
  below =
      λ i d lt.
      let l = length-keys_from key count in
      let at = get_or-keys_from key count i d (omega (arith, l, lt)) in
      let within : i < count = omega (arith, l, lt) in
      omega (arith, at, within, le);
}

-- ---- edits

pub more_apart : (keys : List ℕ) (at next : ℕ) → AreApart keys next → AreApart (insert keys at next) (next + 1)
more_apart keys at next a =
    let moved = IsPermutation-insert keys at next in
    record {
      distinct =
          IsDistinct-IsPermutation nat_eq same_turned (next ∷ keys) (insert keys at next) moved
          (IsDistinct-cons nat_eq next keys (differs_from_all next keys (λ i lt e. let b = a.below i 0 lt in absurd (omega (arith, b, e)))) a.distinct);
      below =
          All-permutation (λ k. k < next + 1) (next ∷ keys) (insert keys at next) moved
          (All-cons (λ k. k < next + 1) next keys (omega arith) (λ i d lt. let b = a.below i d lt in omega (arith, b)));
    }

default_unseen : (keys : List ℕ) (at d e : ℕ) → at < length keys → get_or keys at d ≡ get_or keys at e
default_unseen [] at d e within = absurd (omega (arith, within))
default_unseen (k ∷ ks) zero d e within = refl
default_unseen (k ∷ ks) (suc i) d e within = default_unseen ks i d e (omega (arith, within))

pub less_apart : (keys : List ℕ) (at next : ℕ) → at < length keys → AreApart keys next → AreApart (remove keys at) next
less_apart keys at next within a =
    let key = get_or keys at 0 in
    let moved = IsPermutation-remove keys at key within (default_unseen keys at 0 (get_or keys at 0) within) in
    record {
      distinct = IsDistinct-tail nat_eq key (remove keys at) (IsDistinct-IsPermutation nat_eq same_turned keys (key ∷ remove keys at) moved a.distinct);
      below = All-tail (λ k. k < next) key (remove keys at) (All-permutation (λ k. k < next) keys (key ∷ remove keys at) moved a.below);
    }

-- Numbers that digits spell.
use Rattle.std.proofs.Common.{◌≡◌, ℕ, ◌+◌, ◌*◌, ◌^◌, ◌<◌, ◌≤◌, Bool, true, IsTrue, List, length, get_or, take, sym, ap, ◌∙◌, take_all, refl, arith}
use Rattle.std.specs.List.{fold, list_all}
use Rattle.std.proofs.lemmas.Bool.{and_parts, leb-true}
use Rattle.std.proofs.lemmas.Bool.Decides.{nat_tests}
use Rattle.text_measure.specs.Grammar.{is_digit, is_hex, hex_value}
use Rattle.std.proofs.lemmas.Nat.{pow-add}
use Rattle.std.proofs.lemmas.Nat.{mul-le}
use Rattle.std.proofs.Math.Pow.{pow_mono}
use Rattle.std.proofs.lemmas.List.Sums.{fold_more, AllPass-from_list_all}

-- the number that the first i digits spell, in a base of at most 16
pub record IsSpelled (step : ℕ → ℕ → ℕ) (digits : List ℕ) (i number : ℕ) : Type 0 where
  pub is : number ≡ fold step 0 (take i digits)
  pub small : number < 2 ^ (4 * i)

pub spelled-none : (step : ℕ → ℕ → ℕ) (digits : List ℕ) → IsSpelled step digits 0 0
spelled-none step digits = record { is = refl; small = omega arith }

pub spelled_short : (step : ℕ → ℕ → ℕ) (digits : List ℕ) (i number : ℕ) → IsSpelled step digits i number → i ≤ 6 → number < 2 ^ 24
spelled_short step digits i number h short = let p : 2 ^ (4 * i) ≤ 2 ^ 24 = pow_mono {i = 4 * i} {j = 24} (omega arith) in omega (arith, p, h.small)

pub spelled-more : (step : ℕ → ℕ → ℕ) (digits : List ℕ) (i number new base digit : ℕ) → IsSpelled step digits i number → i < length digits → base ≤ 16 → digit < base
    → new ≡ step number (get_or digits i 0) → new ≡ base * number + digit → IsSpelled step digits (i + 1) new
spelled-more step digits i number new base digit h within b d e f = record {
  is = e ∙ ap (λ n. step n (get_or digits i 0)) h.is ∙ sym (fold_more step 0 digits i 0 within);
  small =
      let four : 4 * (i + 1) ≡ 4 * i + 4 = omega arith in
      let p : 2 ^ (4 * (i + 1)) ≡ 2 ^ (4 * i) * 16 = ap (λ k. 2 ^ k) four ∙ pow-add 2 (4 * i) 4 in
      let q = mul-le base (number + 1) 16 (2 ^ (4 * i)) b (omega (arith, h.small)) in omega (arith, p, q, d, f);
}

pub spelled_all : (step : ℕ → ℕ → ℕ) (digits : List ℕ) (i number : ℕ) → IsSpelled step digits i number → length digits ≤ i → number ≡ fold step 0 digits
spelled_all step digits i number h past = h.is ∙ ap (fold step 0) (take_all i digits past)

-- what a digit is
pub digit_range : (b : ℕ) → is_digit b ≡ true → (48 ≤ b) × (b ≤ 57)
digit_range b e = let p = and_parts _ _ e in (leb-true _ _ p.0, leb-true _ _ p.1)

pub hex_range : (b : ℕ) → is_hex b ≡ true → hex_value b < 16
hex_range b e = grind (arith, nat_tests)

pub passed : (p : ℕ → Bool) (bs : List ℕ) (i : ℕ) → IsTrue (list_all p bs) → i < length bs → p (get_or bs i 0) ≡ true
passed p bs i t within = AllPass-from_list_all p bs t i 0 within

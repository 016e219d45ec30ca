-- What `parse` gives at an `i32`, in the words of the language's `int`.
use Rattle.std.proofs.Common.{◌≡◌, ◌≢◌, ℕ, ℤ, pos, neg_ℤ, ◌<◌, ◌≤◌, Bool, true, false, cond, List, [], ◌∷◌, length, get_or, drop, Some, None, Result, Ok, Err, refl, arith, rules, tests, slice_index, nat_le, eqb}
use Rattle.std.specs.List.{list_all}
use Rattle.std.specs.Char.{is_ascii_digit}
use Rattle.std.specs.Result.{result_ok}
use Rattle.std.specs.Str.Parse.{ParsesSigned, digits_value}
use Rattle.std.proofs.lemmas.Str.Parse.{IsNumeralModel, IsDigitsTest, numerals_by_value, parse_signed_plain, parse_signed_minus}
use Rattle.std.proofs.lemmas.Bool.{eqb-true, eqb-false}
use Rattle.std.proofs.lemmas.Bool.Decides.{nat_tests}
use Rattle.script_lines.specs.Ints.{int_reading, digits_reading}
use mir.Syntax.{w32}

-- digits, tested one by one
pub digits_test : IsDigitsTest (λ ds. list_all is_ascii_digit ds ≡ true)
digits_test = search rules

pub digits_model : IsNumeralModel (λ ds. list_all is_ascii_digit ds ≡ true) (digits_value 10)
digits_model = numerals_by_value _ digits_test

-- digits of a number at most this
AreDigitsUpTo : ℕ → List ℕ → Type 0
AreDigitsUpTo most ds = (list_all is_ascii_digit ds ≡ true) × (0 < length ds) × (digits_value 10 ds ≤ most)

reading-ok : (most : ℕ) (signed : ℕ → ℤ) (ds : List ℕ) (x : ℤ) → list_all is_ascii_digit ds ≡ true → 0 < length ds → digits_value 10 ds ≤ most → x ≡ signed (digits_value 10 ds) → Some x ≡ digits_reading most signed ds
reading-ok most signed [] x all on low e = absurd (omega arith)
reading-ok most signed (b ∷ bs) x all on low e =
    let fits : nat_le (digits_value 10 (b ∷ bs)) most ≡ true = grind (arith, nat_tests) in
    rw (all, fits, e) refl

reading-none : (most : ℕ) (signed : ℕ → ℤ) (ds : List ℕ) → (list_all is_ascii_digit ds ≡ true → 0 < length ds → digits_value 10 ds ≤ most → ⊥) → None ≡ digits_reading most signed ds
reading-none most signed [] no_digits = refl
reading-none most signed (b ∷ bs) no_digits =
    let n = digits_value 10 (b ∷ bs) in
    by_tests (list_all is_ascii_digit (b ∷ bs)) (nat_le n most) refl refl
  where
    by_tests : (s t : Bool) → list_all is_ascii_digit (b ∷ bs) ≡ s → nat_le (digits_value 10 (b ∷ bs)) most ≡ t → None ≡ digits_reading most signed (b ∷ bs)
    by_tests false t e f = rw e refl
    by_tests true false e f = rw (e, f) refl
    by_tests true true e f = absurd (no_digits e (omega arith) (search (rules, tests)))

-- with or without a minus
plain : {E : Type 0} (bs : List ℕ) (r : Result ℤ E) → ParsesSigned w32 10 bs r → get_or bs 0 0 ≢ 43 → get_or bs 0 0 ≢ 45 → result_ok r ≡ digits_reading 2147483647 pos bs
plain {E} bs (Ok x) h plus minus =
    let k = parse_signed_plain digits_model {E = E} w32 bs (Ok x) h plus minus in
    reading-ok 2147483647 pos bs x k.0.0 k.0.1 (omega (arith, k.0.2)) k.1
plain {E} bs (Err e) h plus minus =
    let k = parse_signed_plain digits_model {E = E} w32 bs (Err e) h plus minus in
    reading-none 2147483647 pos bs (λ all on low. k (all, on, omega arith))

minus : {E : Type 0} (bs : List ℕ) (r : Result ℤ E) → ParsesSigned w32 10 bs r → get_or bs 0 0 ≡ 45 → result_ok r ≡ digits_reading 2147483648 (λ n. neg_ℤ (pos n)) (drop 1 bs)
minus {E} bs (Ok x) h first =
    let k = parse_signed_minus digits_model {E = E} w32 bs (Ok x) h first in
    reading-ok 2147483648 (λ n. neg_ℤ (pos n)) (drop 1 bs) x k.0.0 k.0.1 (omega (arith, k.0.2)) k.1
minus {E} bs (Err e) h first =
    let k = parse_signed_minus digits_model {E = E} w32 bs (Err e) h first in
    reading-none 2147483648 (λ n. neg_ℤ (pos n)) (drop 1 bs) (λ all on low. k (all, on, omega arith))

-- a text that begins with no plus
pub int_reading-parse : {E : Type 0} (bs : List ℕ) (r : Result ℤ E) → ParsesSigned w32 10 bs r → eqb (slice_index bs 0) 43 ≡ false → result_ok r ≡ int_reading bs
int_reading-parse bs r h plus =
    elim (eqb (slice_index bs 0) 45) as (λ v. eqb (slice_index bs 0) 45 ≡ v → result_ok r ≡ cond v (digits_reading 2147483648 (λ n. neg_ℤ (pos n)) (drop 1 bs)) (digits_reading 2147483647 pos bs)) [
      | true ↦ λ e. minus bs r h (eqb-true _ _ e)
      | false ↦ λ e. plain bs r h (eqb-false _ _ plus) (eqb-false _ _ e)
    ] refl

-- a text that begins with a plus spells no int
pub int_reading-plus : (bs : List ℕ) → eqb (slice_index bs 0) 43 ≡ true → None ≡ int_reading bs
int_reading-plus [] e = refl
int_reading-plus (b ∷ bs) e = let at : b ≡ 43 = eqb-true _ _ e in rw at refl

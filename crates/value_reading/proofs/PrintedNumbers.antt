-- That printed numbers are read as themselves.
use Rattle.std.proofs.Common.{◌≡◌, ℕ, zero, suc, ◌+◌, ◌-◌, ◌*◌, ◌/◌, ◌%◌, ◌^◌, ◌<◌, ◌≤◌, Bool, true, false, ◌&&◌, List, [], ◌∷◌, ◌++◌, length, sym, ◌∙◌, ap, refl, arith, append_assoc, inl, inr, Some, None}
use Rattle.std.specs.Prelude.{◌==◌, nat_le, nat_lt, if◌then◌else◌, option_and_then}
use Rattle.std.specs.Char.{is_ascii_digit, digit_value}
use Rattle.std.specs.Fmt.{decimal}
use Rattle.std.specs.List.{list_all}
use Rattle.std.specs.Str.Parse.{digits_value, digits_value_after}
use Rattle.std.proofs.lemmas.Bool.Decides.{nat_tests, eqb_tells}
use Rattle.std.proofs.lemmas.Fmt.{decimal_by_steps, decimal_is_IsNumeral, length-decimal-le}
use Rattle.std.proofs.lemmas.List.Folds.{list_all-append}
use Rattle.slint_base.specs.Numbers.{near_size, most_units, greatest_int}
use Rattle.slint_literals.specs.Numbers.{pointed, some_digits, is_unit, are_parts, number_value, plain_number, digits_worth, measure_of, measured}
use Rattle.slint_literals.specs.declared.numbers.Number.{Number}
use Rattle.std.proofs.lemmas.Bool.{le-leb, le-ltb}
use Rattle.std.proofs.lemmas.Nat.{pow-add}
use Rattle.slint_literals.proofs.NumberTexts.{numeral_is}
use Rattle.slint_literals.proofs.Worths.{after-append}
use Rattle.value_types.specs.Printed.{fraction_digits, printed_size}
use Rattle.value_types.proofs.Fractions.{no_parts, digit_more, scale_positive, scale_step, digit_small, rest_small}
use Rattle.std.proofs.Math.Nat.{mod-add-div', add-mul-div_right, div-eq_of_lt, div-le_self}

-- a digit
digit_passes : (d : ℕ) → d < 10 → is_ascii_digit (48 + d) ≡ true
digit_passes d h = grind (arith, nat_tests)

digit_worth : (d : ℕ) → d < 10 → digit_value (48 + d) ≡ d
digit_worth d h = grind (arith, nat_tests)

one_more : (ds : List ℕ) (d : ℕ) → list_all is_ascii_digit ds ≡ true → d < 10 → list_all is_ascii_digit (ds ++ (48 + d) ∷ []) ≡ true
one_more ds d h k = list_all-append is_ascii_digit ds ((48 + d) ∷ []) ∙ ap (λ b. b && (is_ascii_digit (48 + d) && true)) h ∙ ap (λ b. b && true) (digit_passes d k)

-- a decimal is digits, at least one
pub decimal_digits : (n : ℕ) → n < 2 ^ 64 → list_all is_ascii_digit (decimal n) ≡ true
decimal_digits = decimal_by_steps (λ _ ds. list_all is_ascii_digit ds ≡ true) (λ n h. ap (λ b. b && true) (digit_passes n h)) (λ n ds h k. one_more ds (n % 10) k (omega arith))

pub decimal_some : (p n : ℕ) → n ≤ most_units → n / 10 ^ p < 2 ^ 64
decimal_some p n h = let low : n / 10 ^ p ≤ n = div-le_self n (10 ^ p) in omega (arith, low, h)

some_by : (ds : List ℕ) → 0 < length ds → list_all is_ascii_digit ds ≡ true → some_digits ds ≡ true
some_by [] h k = absurd (omega arith)
some_by (d ∷ ds) h k = k

-- the digits behind a point: no more than the places, and what they are worth behind others
pub record IsFraction (p r : ℕ) (ds : List ℕ) : Type 0 where
  pub passes : list_all is_ascii_digit ds ≡ true
  pub short : length ds ≤ p
  pub worth_behind : (a : ℕ) → digits_value_after 10 a ds * 10 ^ (p - length ds) ≡ a * 10 ^ p + r

no_fraction : (p : ℕ) → IsFraction p 0 []
no_fraction p = record { passes = refl; short = omega arith; worth_behind = λ a. (let same : p - 0 ≡ p = omega arith in ap (λ k. a * 10 ^ k) same ∙ omega arith) }

more_fraction : (p r : ℕ) (es : List ℕ) → r < 10 ^ suc p → IsFraction p (r % 10 ^ p) es → IsFraction (suc p) r ((48 + r / 10 ^ p) ∷ es)
more_fraction p r es h f =
    let d = r / 10 ^ p in
    let small : d < 10 = digit_small p r h in
    let places : suc p - suc (length es) ≡ p - length es = omega arith in
    let parts : r % 10 ^ p + d * 10 ^ p ≡ r = mod-add-div' r (10 ^ p) in
    record {
      passes = ap (λ b. b && list_all is_ascii_digit es) (digit_passes d small) ∙ f.passes;
      short = omega (arith, f.short);
      worth_behind = λ a.
          (let inner : digits_value_after 10 (a * 10 + d) es * 10 ^ (p - length es) ≡ (a * 10 + d) * 10 ^ p + r % 10 ^ p = f.worth_behind (a * 10 + d) in
          ap (λ k. digits_value_after 10 (a * 10 + digit_value (48 + d)) es * 10 ^ k) places ∙ ap (λ v. digits_value_after 10 (a * 10 + v) es * 10 ^ (p - length es)) (digit_worth d small) ∙ inner
          ∙ regroup a d (10 ^ p) (r % 10 ^ p) r (10 ^ suc p) (scale_step p) parts);
    }
  where
    regroup : (a d q s r t : ℕ) → t ≡ 10 * q → s + d * q ≡ r → (a * 10 + d) * q + s ≡ a * t + r
    regroup a d q s r t e f = rw e (omega (arith, f))

pub fraction : (p r : ℕ) → r < 10 ^ p → IsFraction p r (fraction_digits p r)
fraction zero r h = let none : r ≡ 0 = omega arith in rw none (rw (no_parts zero) (no_fraction zero))
fraction (suc p) r h = elim (eqb_tells r 0) [
  | inl none ↦ rw none.1 (rw (no_parts (suc p)) (no_fraction (suc p)))
  | inr some ↦ rw (digit_more p r some.1) (more_fraction p r (fraction_digits p (r % 10 ^ p)) h (fraction p (r % 10 ^ p) (rest_small p r)))
]

-- a multiple is divided exactly
pub near_exact : (n d : ℕ) → 0 < d → near_size (n * d) d ≡ n
near_exact n d h =
    let two : 0 < 2 * d = omega arith in
    let turned : 2 * (n * d) + d ≡ d + n * (2 * d) = omega arith in
    let half : d / (2 * d) ≡ 0 = div-eq_of_lt (omega arith) in
    ap (λ k. k / (2 * d)) turned ∙ add-mul-div_right d n two ∙ ap (λ k. k + n) half ∙ omega arith

-- the number that the digits of a printed number write, by its parts
pub digits_are : (p n : ℕ) → n / 10 ^ p < 2 ^ 64
    → digits_value 10 (decimal (n / 10 ^ p) ++ fraction_digits p (n % 10 ^ p)) * 10 ^ p ≡ n * 10 ^ length (fraction_digits p (n % 10 ^ p))
digits_are p n h =
    let w = decimal (n / 10 ^ p) in
    let f = fraction_digits p (n % 10 ^ p) in
    let fr = fraction p (n % 10 ^ p) (rest_small p n) in
    let whole : digits_value 10 w ≡ n / 10 ^ p = (decimal_is_IsNumeral (n / 10 ^ p) h).1 in
    let digits : digits_value 10 (w ++ f) ≡ digits_value_after 10 (n / 10 ^ p) f = after-append 0 w f ∙ ap (λ a. digits_value_after 10 a f) whole in
    let all : digits_value_after 10 (n / 10 ^ p) f * 10 ^ (p - length f) ≡ n = fr.worth_behind (n / 10 ^ p) ∙ turned (n / 10 ^ p * 10 ^ p) (n % 10 ^ p) n (mod-add-div' n (10 ^ p)) in
    let count : (p - length f) + length f ≡ p = omega (arith, fr.short) in
    let power : 10 ^ p ≡ 10 ^ (p - length f) * 10 ^ length f = ap (λ k. 10 ^ k) (sym count) ∙ pow-add 10 (p - length f) (length f) in
    ap (λ k. k * 10 ^ p) digits ∙ joined (digits_value_after 10 (n / 10 ^ p) f) (10 ^ p) (10 ^ (p - length f)) (10 ^ length f) n power all
  where
    turned : (a b n : ℕ) → b + a ≡ n → a + b ≡ n
    turned a b n e = omega (arith, e)

    joined : (v q r s n : ℕ) → q ≡ r * s → v * r ≡ n → v * q ≡ n * s
    joined v q r s n e f = rw e (rw (← f) (omega arith))

untested : (b c : Bool) → ((b && false) && c) ≡ false
untested true c = refl
untested false c = refl

-- a unit of which one is a power of ten of smallest units
abbrev pub Gives : ℕ → List ℕ → (ℕ → Number) → Type 0
Gives p unit made = (d k : ℕ) → option_and_then (measured d k) (measure_of unit) ≡ (if nat_le (near_size (d * 10 ^ p) (1 * 10 ^ k)) most_units then Some (made (near_size (d * 10 ^ p) (1 * 10 ^ k))) else None)

pub measured_exactly : (p n d k : ℕ) (unit : List ℕ) (made : ℕ → Number) → Gives p unit made → d * 10 ^ p ≡ n * 10 ^ k → n ≤ most_units → option_and_then (measured d k) (measure_of unit) ≡ Some (made n)
measured_exactly p n d k unit made g e h =
    let one : 1 * 10 ^ k ≡ 10 ^ k = omega arith in
    let near : near_size (d * 10 ^ p) (1 * 10 ^ k) ≡ n = ap (λ x. near_size x (1 * 10 ^ k)) e ∙ ap (λ x. near_size (n * 10 ^ k) x) one ∙ near_exact n (10 ^ k) (scale_positive k) in
    g d k ∙ ap (λ x. (if nat_le x most_units then Some (made x) else None)) near ∙ ap (λ b. (if b then Some (made n) else None)) (le-leb n most_units h)

-- a printed number with a unit, by its digits and how many stand behind the point
pub by_digits : (p n : ℕ) (unit : List ℕ) → p ≤ 9 → is_unit unit ≡ true → n ≤ most_units
    → number_value (printed_size p n ++ unit) ≡ digits_worth (digits_value 10 (decimal (n / 10 ^ p) ++ fraction_digits p (n % 10 ^ p))) (length (fraction_digits p (n % 10 ^ p))) unit
by_digits p n unit few is_u h =
    let w = decimal (n / 10 ^ p) in
    let f = fraction_digits p (n % 10 ^ p) in
    let fr = fraction p (n % 10 ^ p) (rest_small p n) in
    let low : n / 10 ^ p ≤ n = div-le_self n (10 ^ p) in
    let fits : n / 10 ^ p < 2 ^ 64 = omega (arith, low, h) in
    let sixteen : length w ≤ 16 = length-decimal-le 16 (n / 10 ^ p) (omega arith) (omega (arith, low, h)) fits in
    let whole : some_digits w ≡ true = some_by w (decimal_is_IsNumeral (n / 10 ^ p) fits).0.0 (decimal_digits (n / 10 ^ p) fits) in
    let parts : are_parts w f unit ≡ true = ap (λ b. b && (list_all is_ascii_digit f && is_unit unit)) whole ∙ ap (λ b. b && is_unit unit) fr.passes ∙ is_u in
    let few_digits : nat_lt 30 (length w + length f) ≡ false = le-ltb 30 (length w + length f) (omega (arith, sixteen, fr.short, few)) in
    ap number_value (append_assoc w (pointed f) unit) ∙ (numeral_is w f unit parts).1 ∙ ap (λ b. (if b then None else digits_worth (digits_value 10 (w ++ f)) (length f) unit)) few_digits

pub exact : (p n : ℕ) (unit : List ℕ) (made : ℕ → Number) → p ≤ 9 → is_unit unit ≡ true → (length unit == 0) ≡ false → Gives p unit made → n ≤ most_units → number_value (printed_size p n ++ unit) ≡ Some (made n)
exact p n unit made few is_u long m h =
    let w = decimal (n / 10 ^ p) in
    let f = fraction_digits p (n % 10 ^ p) in
    by_digits p n unit few is_u h
    ∙ ap (λ b. (if (length f == 0 && b) && nat_le (digits_value 10 (w ++ f)) greatest_int then Some (plain_number (digits_value 10 (w ++ f))) else option_and_then (measured (digits_value 10 (w ++ f)) (length f)) (measure_of unit))) long
    ∙ ap (λ b. (if b then Some (plain_number (digits_value 10 (w ++ f))) else option_and_then (measured (digits_value 10 (w ++ f)) (length f)) (measure_of unit))) (untested (length f == 0) (nat_le (digits_value 10 (w ++ f)) greatest_int))
    ∙ measured_exactly p n (digits_value 10 (w ++ f)) (length f) unit made m (digits_are p n (decimal_some p n h)) h

-- That written numbers and colours are read as they are.
use Rattle.std.proofs.Common.{◌≡◌, ℕ, suc, ◌+◌, ◌*◌, ◌/◌, ◌^◌, ◌<◌, ◌≤◌, true, false, cond, eqb, ltb, leb, ◌&&◌, Some, None, List, [], ◌∷◌, ◌++◌, length, pos, refl, sym, ap, ◌∙◌, subst, arith, rules, lit<}
use Rattle.std.specs.Prelude.{codes}
use Rattle.std.specs.Char.{digit_char, is_ascii_digit, is_ascii_hexdigit, is_ascii_alphanumeric}
use Rattle.std.specs.Fmt.{decimal}
use Rattle.std.specs.List.{list_all}
use Rattle.std.specs.Option.{option_map, option_and_then}
use Rattle.std.specs.Str.Parse.{digits_value, digits_value_after}
use Rattle.std.proofs.Math.Nat.{one-le-pow, div-le_self}
use Rattle.std.proofs.lemmas.Bool.{le-leb, le-ltb, ne_eqb}
use Rattle.std.proofs.lemmas.Bool.Decides.{nat_tests}
use Rattle.std.proofs.lemmas.Fmt.{digits_decimal, digits_value-decimal, length-decimal-le, decimal_nonempty}
use Rattle.std.proofs.lemmas.List.{append_assoc, append-nil}
use Rattle.std.proofs.lemmas.Nat.{div-mul-add}
use Rattle.std.proofs.lemmas.Str.Parse.{IsNumeralModel, numerals_by_value}
use Rattle.slint_base.specs.Numbers.{greatest_int, most_units, near_size}
use Rattle.slint_literals.specs.declared.measures.Quantity.{Quantity}
use Rattle.slint_literals.specs.declared.measures.Quantity.TheVariants.{Float, Percent, Length, Duration, Angle}
use Rattle.slint_literals.specs.declared.numbers.Number.{Number}
use Rattle.slint_literals.specs.declared.numbers.Number.TheVariants as numbers
use Rattle.slint_literals.specs.Colours.{eight_digits, colour_value}
use Rattle.slint_literals.specs.Numbers.{pointed, numeral, some_digits, is_unit, are_parts, number_in, within_type, measured, measure, measure_of, plain_number, digits_worth, worth, number_value}
use Rattle.slint_literals.proofs.Choices.{both_true}
use Rattle.slint_literals.proofs.NumberTexts.{numeral_is}
use Rattle.slint_literals.specs.Spelled.{last_digits, spelled_units, spelled_number, ReadyNumber, IsWorth}
use Rattle.slint_literals.proofs.Digits.{length-last_digits, after_append, after_last, last_pass}

numerals : IsNumeralModel (λ ds. list_all is_ascii_digit ds ≡ true) (digits_value 10)
numerals = numerals_by_value _ (search rules)

decimal_digits : (n : ℕ) → n < 2 ^ 64 → list_all is_ascii_digit (decimal n) ≡ true
decimal_digits n h = digits_decimal numerals n h

decimal_value : (n : ℕ) → n < 2 ^ 64 → digits_value 10 (decimal n) ≡ n
decimal_value n h = digits_value-decimal numerals n h

some_from : (ds : List ℕ) → list_all is_ascii_digit ds ≡ true → 0 < length ds → some_digits ds ≡ true
some_from [] h p = absurd (omega arith)
some_from (d ∷ ds) h p = h

decimal_some : (n : ℕ) → n < 2 ^ 64 → some_digits (decimal n) ≡ true
decimal_some n h = some_from (decimal n) (decimal_digits n h) (decimal_nonempty n h)

digit_passes : (d : ℕ) → d < 10 → is_ascii_digit (digit_char d) ≡ true
digit_passes d h = grind (arith, nat_tests)

last_are_digits : (count n : ℕ) → list_all is_ascii_digit (last_digits 10 count n) ≡ true
last_are_digits count n = last_pass is_ascii_digit 10 count n (lit< tt) digit_passes

good_parts : (w f u : List ℕ) → some_digits w ≡ true → list_all is_ascii_digit f ≡ true → is_unit u ≡ true → are_parts w f u ≡ true
good_parts w f u h k l = both_true (some_digits w) (list_all is_ascii_digit f && is_unit u) h (both_true (list_all is_ascii_digit f) (is_unit u) k l)

-- rounding what needs none
near_exact : (n d : ℕ) → 0 < d → near_size (n * d) d ≡ n
near_exact n d h =
    let whole : 2 * (n * d) + d ≡ n * (2 * d) + d = omega arith in
    ap (λ x. x / (2 * d)) whole ∙ div-mul-add n (2 * d) d (omega arith)

-- what parts are worth, where the digits are few
worth_few : (w f u : List ℕ) (n : ℕ) → length w + length f ≤ 30 → digits_value 10 (w ++ f) ≡ n → worth w f u ≡ digits_worth n (length f) u
worth_few w f u n few e =
    let small : ltb 30 (length w + length f) ≡ false = le-ltb 30 (length w + length f) few in
    ap (λ t. cond t None (digits_worth (digits_value 10 (w ++ f)) (length f) u)) small ∙ ap (λ d. digits_worth d (length f) u) e

within : (q : Quantity) (n : ℕ) → n ≤ most_units → within_type q n ≡ Some (number_in q (pos n))
within q n h = ap (λ t. cond t (Some (number_in q (pos n))) None) (le-leb n most_units h)

exact : (q : Quantity) (n factor places : ℕ) → n ≤ most_units → factor ≡ 10 ^ places → measured n places (record { quantity = q; factor = factor; divisor = 1 }) ≡ Some (number_in q (pos n))
exact q n factor places h e =
    let divisor : 1 * 10 ^ places ≡ 10 ^ places = omega arith in
    let size : near_size (n * factor) (1 * 10 ^ places) ≡ n =
    ap (λ x. near_size (n * x) (1 * 10 ^ places)) e ∙ ap (near_size (n * 10 ^ places)) divisor ∙ near_exact n (10 ^ places) (one-le-pow places 10 (lit< tt)) in
    ap (within_type q) size ∙ within q n h

pointed_some : (f : List ℕ) → 0 < length f → pointed f ≡ 46 ∷ f
pointed_some [] h = absurd (omega arith)
pointed_some (d ∷ f) h = refl

-- a number with a point

units_value : (places n : ℕ) → n ≤ most_units → digits_value 10 (decimal (n / 10 ^ places) ++ last_digits 10 places n) ≡ n
units_value places n h =
    let q = n / 10 ^ places in
    let small : q ≤ n = div-le_self n (10 ^ places) in
    after_append 10 0 (decimal q) (last_digits 10 places n)
    ∙ ap (λ d. digits_value_after 10 d (last_digits 10 places n)) (decimal_value q (omega arith))
    ∙ after_last 10 places n (lit< tt) (omega arith)

units_few : (places n : ℕ) → n ≤ most_units → places ≤ 6 → length (decimal (n / 10 ^ places)) + length (last_digits 10 places n) ≤ 30
units_few places n h k =
    let q = n / 10 ^ places in
    let small : q ≤ n = div-le_self n (10 ^ places) in
    let few : length (decimal q) ≤ 16 = length-decimal-le 16 q (omega arith) (omega arith) (omega arith) in
    omega (arith, length-last_digits 10 places n)

pointed_worth : (places n : ℕ) (u : List ℕ) → eqb places 0 ≡ false → digits_worth n places u ≡ option_and_then (measured n places) (measure_of u)
pointed_worth places n u h =
    ap (λ t. cond ((t && eqb (length u) 0) && leb n greatest_int) (Some (plain_number n)) (option_and_then (measured n places) (measure_of u))) h

units_worth : (q : Quantity) (places n : ℕ) (u : List ℕ) → n ≤ most_units → 0 < places → places ≤ 6 → eqb places 0 ≡ false → is_unit u ≡ true → measure_of u ≡ measure q (10 ^ places) 1 → IsWorth (spelled_units places n ++ u) (number_in q (pos n))
units_worth q places n u h some few e good m =
    let w = decimal (n / 10 ^ places) in
    let f = last_digits 10 places n in
    let small : n / 10 ^ places ≤ n = div-le_self n (10 ^ places) in
    let count : length f ≡ places = length-last_digits 10 places n in
    let parts : are_parts w f u ≡ true = good_parts w f u (decimal_some (n / 10 ^ places) (omega arith)) (last_are_digits places n) good in
    let point : pointed f ≡ 46 ∷ f = pointed_some f (omega arith) in
    let text : spelled_units places n ++ u ≡ numeral w f u = append_assoc w (46 ∷ f) u ∙ ap (λ t. w ++ (t ++ u)) (sym point) in
    let value : worth w f u ≡ Some (number_in q (pos n)) =
    worth_few w f u n (units_few places n h few) (units_value places n h)
    ∙ ap (λ k. digits_worth n k u) count
    ∙ pointed_worth places n u e
    ∙ ap (option_and_then (measured n places)) m
    ∙ exact q n (10 ^ places) places h refl in
    record { whole = w; fraction = f; unit = u; parts = parts; is = text; value = ap number_value text ∙ (numeral_is w f u parts).1 ∙ value }

-- a number without a point

plain_text : (w u : List ℕ) → w ++ u ≡ numeral w [] u
plain_text w u = refl

int_is : (n : ℕ) → plain_number (suc n) ≡ numbers.Int (pos (suc n))
int_is n = ap (λ t. cond t numbers.Zero (numbers.Int (pos (suc n)))) (ne_eqb (suc n) 0 (λ e. omega arith))

int_worth : (n : ℕ) → suc n ≤ greatest_int → IsWorth (decimal (suc n)) (numbers.Int (pos (suc n)))
int_worth n h =
    let w = decimal (suc n) in
    let parts : are_parts w [] [] ≡ true = good_parts w [] [] (decimal_some (suc n) (omega arith)) refl refl in
    let text : w ≡ numeral w [] [] = sym (append-nil w) in
    let few : length w ≤ 16 = length-decimal-le 16 (suc n) (omega arith) (omega arith) (omega arith) in
    let digits : digits_value 10 (w ++ []) ≡ suc n = ap (digits_value 10) (append-nil w) ∙ decimal_value (suc n) (omega arith) in
    let value : worth w [] [] ≡ Some (numbers.Int (pos (suc n))) =
    worth_few w [] [] (suc n) (omega arith) digits
    ∙ ap (λ t. cond t (Some (plain_number (suc n))) (option_and_then (measured (suc n) 0) (measure_of []))) (le-leb (suc n) greatest_int h)
    ∙ ap Some (int_is n) in
    record { whole = w; fraction = []; unit = []; parts = parts; is = text; value = ap number_value text ∙ (numeral_is w [] [] parts).1 ∙ value }

duration_worth : (n : ℕ) → n ≤ most_units → IsWorth (decimal n ++ codes "ms") (numbers.Duration (pos n))
duration_worth n h =
    let w = decimal n in
    let u = codes "ms" in
    let parts : are_parts w [] u ≡ true = good_parts w [] u (decimal_some n (omega arith)) refl refl in
    let few : length w ≤ 16 = length-decimal-le 16 n (omega arith) (omega arith) (omega arith) in
    let digits : digits_value 10 (w ++ []) ≡ n = ap (digits_value 10) (append-nil w) ∙ decimal_value n (omega arith) in
    let value : worth w [] u ≡ Some (numbers.Duration (pos n)) = worth_few w [] u n (omega arith) digits ∙ exact Duration n 1 0 h refl in
    record { whole = w; fraction = []; unit = u; parts = parts; is = refl; value = (numeral_is w [] u parts).1 ∙ value }

float_worth : (n : ℕ) → n ≤ most_units → IsWorth (spelled_units 6 n) (numbers.Float (pos n))
float_worth n h = subst (λ t. IsWorth t (numbers.Float (pos n))) (append-nil (spelled_units 6 n)) (units_worth Float 6 n [] h (omega arith) (omega arith) refl refl refl)

-- what a number is written as is worth the number
pub spelled_worth : (n : Number) → ReadyNumber n → IsWorth (spelled_number n) n
spelled_worth numbers.Zero r = record { whole = 48 ∷ []; fraction = []; unit = []; parts = refl; is = refl; value = refl }
spelled_worth (numbers.Int z) r = subst (λ x. IsWorth (spelled_number (numbers.Int x)) (numbers.Int x)) (sym r.1) (int_worth r.0 r.2)
spelled_worth (numbers.Float z) r = subst (λ x. IsWorth (spelled_number (numbers.Float x)) (numbers.Float x)) (sym r.1) (float_worth r.0 r.2)
spelled_worth (numbers.Percent z) r = subst (λ x. IsWorth (spelled_number (numbers.Percent x)) (numbers.Percent x)) (sym r.1) (units_worth Percent 6 r.0 (codes "%") r.2 (omega arith) (omega arith) refl refl refl)
spelled_worth (numbers.Length z) r = subst (λ x. IsWorth (spelled_number (numbers.Length x)) (numbers.Length x)) (sym r.1) (units_worth Length 3 r.0 (codes "px") r.2 (omega arith) (omega arith) refl refl refl)
spelled_worth (numbers.Duration z) r = subst (λ x. IsWorth (spelled_number (numbers.Duration x)) (numbers.Duration x)) (sym r.1) (duration_worth r.0 r.2)
spelled_worth (numbers.Angle z) r = subst (λ x. IsWorth (spelled_number (numbers.Angle x)) (numbers.Angle x)) (sym r.1) (units_worth Angle 3 r.0 (codes "deg") r.2 (omega arith) (omega arith) refl refl refl)

-- colours

hex_passes : (d : ℕ) → d < 16 → is_ascii_hexdigit (digit_char d) ≡ true
hex_passes d h = grind (arith, nat_tests)

pub alnum_passes : (d : ℕ) → d < 16 → is_ascii_alphanumeric (digit_char d) ≡ true
alnum_passes d h = grind (arith, nat_tests)

pub colour_digits_alnum : (c : ℕ) → list_all is_ascii_alphanumeric (last_digits 16 8 c) ≡ true
colour_digits_alnum c = last_pass is_ascii_alphanumeric 16 8 c (lit< tt) alnum_passes

div_small : (n m : ℕ) → n < m → n / m ≡ 0
div_small n m h = let same : n ≡ 0 * m + n = omega arith in ap (λ x. x / m) same ∙ div-mul-add 0 m n h

pub colour_worth : (c : ℕ) → c < 2 ^ 32 → colour_value (last_digits 16 8 c) ≡ Some c
colour_worth c h =
    let none : c / 16 ^ 8 ≡ 0 = div_small c (16 ^ 8) (omega arith) in
    let value : digits_value 16 (last_digits 16 8 c) ≡ c = ap (λ q. digits_value_after 16 q (last_digits 16 8 c)) (sym none) ∙ after_last 16 8 c (lit< tt) (omega arith) in
    ap (λ t. cond t (option_map (digits_value 16) (eight_digits (last_digits 16 8 c))) None) (last_pass is_ascii_hexdigit 16 8 c (lit< tt) hex_passes) ∙ ap Some value

-- The written forms that printed values are.
use Rattle.std.proofs.Common.{◌≡◌, ℕ, zero, suc, ◌+◌, ◌*◌, ◌<◌, ◌≤◌, ◌/◌, ◌%◌, ◌^◌, ◌⊎◌, inl, inr, List, [], ◌∷◌, ◌++◌, length, sym, ◌∙◌, ap, refl, subst, arith, append-nil, append_assoc, Option, Some, None}
use Rattle.std.specs.Prelude.{Bool, true, false, pos, negsuc, neg_ℤ, ℤ, ◌-ℤ◌, ◌*ℤ◌, ◌==◌, ◌&&◌, nat_le, min, int_div, codes, unsigned_abs, option_and_then, if◌then◌else◌}
use Rattle.std.specs.Char.{is_ascii_digit, is_ascii_alphanumeric}
use Rattle.std.specs.Fmt.{decimal, signed_decimal}
use Rattle.std.specs.List.{list_all}
use Rattle.std.specs.Str.{IsUtf8}
use Rattle.std.proofs.lemmas.Bool.Decides.{nat_tests}
use Rattle.std.proofs.lemmas.Int.{ints}
use Rattle.slint_base.specs.Numbers.{greatest_int, most_units, sat, to_int}
use Rattle.slint_base.proofs.Fitting.{cut_text_whole}
use Rattle.slint_literals.specs.declared.numbers.Number.{Number}
use Rattle.slint_literals.specs.declared.numbers.Number.TheVariants as number
use Rattle.slint_literals.specs.Numbers.{pointed, unit_length, number_value, digits_worth, plain_number, measured, measure_of}
use Rattle.slint_literals.specs.Printed.{printed_text, printed_string}
use Rattle.slint_literals.specs.Strings.{IsRun}
use Rattle.slint_literals.proofs.Choices.{both, tested}
use Rattle.slint_literals.proofs.NumberTexts.{HasParts, parts_before, Fails}
use Rattle.slint_literals.proofs.PrintedTexts.{printed_reads}
use Rattle.value_types.specs.declared.enums.EnumNames.{EnumNames}
use Rattle.value_types.specs.declared.types.Ty.{Ty, out-Ty}
use Rattle.value_types.specs.declared.types.Ty.TheOpen as form
use Rattle.value_types.specs.declared.types.Ty.TheVariants as ty
use Rattle.value_types.specs.declared.values.Value.{Value}
use Rattle.value_types.specs.declared.values.Value.TheVariants as value
use Rattle.value_types.specs.declared.values.Value.TheOpen as shape
use Rattle.value_types.specs.declared.values.Value.TheFolds.{fold-roll-Value}
use Rattle.value_types.specs.Conversions.{converted, int_in, float_in, length_in, angle_in, percent_in, duration_in, text_in, image_in, color_in}
use Rattle.value_types.specs.Printed.{printed, fraction_digits, printed_bool, printed_image, printed_color, printed_size, printed_thousandths, printed_millionths, printing_step}
use Rattle.value_reading.specs.declared.parts.Part.{Part}
use Rattle.value_reading.specs.declared.parts.Part.TheVariants as part
use Rattle.value_reading.specs.Grammar.{IsValue, a_number, a_negative, a_color, a_string, a_word, an_image}
use Rattle.value_reading.specs.Parts.{is_word_byte, AreParts, more}
use Rattle.value_reading.specs.Words.{number_as, negative_as, word_in}
use Rattle.value_reading.specs.Typed.{IsInt}
use Rattle.value_reading.proofs.PrintedColours.{color_parts}
use Rattle.value_reading.proofs.PrintedNumbers.{by_digits, exact, digits_are, measured_exactly, decimal_some}
use Rattle.value_reading.proofs.PrintedParts.{number_there, word_there}
use Rattle.value_reading.proofs.Scalars.{converted_int, converted_float, converted_percent, converted_length, converted_duration, converted_angle, converted_color, converted_text, converted_image}

-- what may stand behind a printed value: nothing, a comma, `]` or a space
pub data Stops : List ℕ → Type 0 where
  at_end : Stops []
  at_comma : (s : List ℕ) → Stops (44 ∷ s)
  at_bracket : (s : List ℕ) → Stops (93 ∷ s)
  at_space : (s : List ℕ) → Stops (32 ∷ s)

-- a text's parts, whatever of these stands behind it, are a written form of a value
pub record IsPrinted (enums : List EnumNames) (t : Ty) (text : List ℕ) (v : Value) : Type 0 where
  pub parts : List Part
  pub splits : (rest : List ℕ) (qs : List Part) → Stops rest → AreParts rest qs → AreParts (text ++ rest) (parts ++ qs)
  pub written : IsValue enums t parts v

pub as_text : (enums : List EnumNames) (t : Ty) (a b : List ℕ) (v : Value) → a ≡ b → IsPrinted enums t b v → IsPrinted enums t a v
as_text enums t a b v e h = subst (λ s. IsPrinted enums t s v) (sym e) h

-- a number, and one behind `-`
abbrev NumberThere : List ℕ → Number → Type 0
NumberThere text m = (rest : List ℕ) (qs : List Part) → Stops rest → AreParts rest qs → AreParts (text ++ rest) (part.Number m ∷ qs)

plus : (enums : List EnumNames) (t : Ty) (text : List ℕ) (m : Number) (v : Value) → NumberThere text m → converted (number_as m) t ≡ Some v → IsPrinted enums t text v
plus enums t text m v there e = record { parts = part.Number m ∷ []; splits = there; written = a_number t m v e }

minus : (enums : List EnumNames) (t : Ty) (text : List ℕ) (m : Number) (v : Value) → NumberThere text m → converted (negative_as m) t ≡ Some v → IsPrinted enums t (45 ∷ text) v
minus enums t text m v there e = record {
  parts = part.Mark 45 ∷ part.Number m ∷ [];
  splits = λ rest qs s h. more 45 (text ++ rest) (text ++ rest) (part.Mark 45) (part.Number m ∷ qs) (refl, refl) (there rest qs s h);
  written = a_negative t m v e;
}

-- an exact number below zero within the ends
negated : (k : ℕ) → suc k ≤ most_units → sat (pos 0 -ℤ pos (suc k)) ≡ negsuc k
negated k h =
    let below : pos 0 -ℤ pos (suc k) ≡ negsuc k = omega (arith, ints) in
    let small : min (suc k) most_units ≡ suc k = omega arith in
    ap sat below ∙ ap (λ m. neg_ℤ (pos m)) small

negated_int : (k : ℕ) → k ≤ greatest_int → to_int (pos 0 -ℤ pos (suc k)) ≡ negsuc k
negated_int k h =
    let below : pos 0 -ℤ pos (suc k) ≡ negsuc k = omega (arith, ints) in
    let small : min k greatest_int ≡ k = omega arith in
    ap to_int below ∙ ap negsuc small

-- a decimal is the decimal without places
no_places : (r : ℕ) → fraction_digits 0 r ≡ []
unfolding fraction_digits
no_places r = refl

plain_size : (n : ℕ) → decimal n ≡ printed_size 0 n
plain_size n =
    let whole : n / 10 ^ 0 ≡ n = omega arith in
    sym (ap (λ ds. decimal (n / 10 ^ 0) ++ pointed ds) (no_places (n % 10 ^ 0)) ∙ append-nil (decimal (n / 10 ^ 0)) ∙ ap decimal whole)

-- lengths
printed_length : (enums : List EnumNames) (n : ℤ) → printed enums (value.Length n) ≡ printed_thousandths n ++ codes "px"
printed_length enums n = ap (printed enums) (sym (value.rolls-Length n)) ∙ fold-roll-Value (List ℕ) (printing_step enums) (shape.Length n)

kept_length : (n : ℤ) → converted (value.Length n) ty.Length ≡ Some (value.Length n)
unfolding out-Ty denote.Hole.Carrier.out
kept_length n = converted_length n ty.Length

px_ends : (rest : List ℕ) → Stops rest → unit_length (codes "px" ++ rest) ≡ 2
px_ends _ at_end = refl
px_ends _ (at_comma s) = refl
px_ends _ (at_bracket s) = refl
px_ends _ (at_space s) = refl

length_there : (n : ℕ) → n ≤ most_units → NumberThere (printed_size 3 n ++ codes "px") (number.Length (pos n))
length_there n h = λ rest qs s is.
    number_there 3 n (codes "px") rest (number.Length (pos n)) qs h (exact 3 n (codes "px") (λ k. number.Length (pos k)) (omega arith) refl refl (λ d k. refl) h) (λ w f g k. parts_before w f (codes "px" ++ rest) g k refl refl) (px_ends rest s) is

pub length_printed : (enums : List EnumNames) (n : ℤ) → unsigned_abs n ≤ most_units → IsPrinted enums ty.Length (printed enums (value.Length n)) (value.Length n)
length_printed enums (pos n) h =
    as_text enums ty.Length _ (printed_size 3 n ++ codes "px") (value.Length (pos n)) (printed_length enums (pos n)) (plus enums ty.Length (printed_size 3 n ++ codes "px") (number.Length (pos n)) (value.Length (pos n)) (length_there n h) (kept_length (pos n)))
length_printed enums (negsuc k) h =
    as_text enums ty.Length _ (45 ∷ (printed_size 3 (suc k) ++ codes "px")) (value.Length (negsuc k)) (printed_length enums (negsuc k)) (minus enums ty.Length (printed_size 3 (suc k) ++ codes "px") (number.Length (pos (suc k))) (value.Length (negsuc k)) (length_there (suc k) h)
    (kept_length (sat (pos 0 -ℤ pos (suc k))) ∙ ap (λ z. Some (value.Length z)) (negated k h)))

-- angles
printed_angle : (enums : List EnumNames) (n : ℤ) → printed enums (value.Angle n) ≡ printed_thousandths n ++ codes "deg"
printed_angle enums n = ap (printed enums) (sym (value.rolls-Angle n)) ∙ fold-roll-Value (List ℕ) (printing_step enums) (shape.Angle n)

kept_angle : (n : ℤ) → converted (value.Angle n) ty.Angle ≡ Some (value.Angle n)
unfolding out-Ty denote.Hole.Carrier.out
kept_angle n = converted_angle n ty.Angle

angle_ends : (rest : List ℕ) → Stops rest → unit_length (codes "deg" ++ rest) ≡ 3
angle_ends _ at_end = refl
angle_ends _ (at_comma s) = refl
angle_ends _ (at_bracket s) = refl
angle_ends _ (at_space s) = refl

angle_there : (n : ℕ) → n ≤ most_units → NumberThere (printed_size 3 n ++ codes "deg") (number.Angle (pos n))
angle_there n h = λ rest qs s is.
    number_there 3 n (codes "deg") rest (number.Angle (pos n)) qs h (exact 3 n (codes "deg") (λ k. number.Angle (pos k)) (omega arith) refl refl (λ d k. refl) h) (λ w f g k. parts_before w f (codes "deg" ++ rest) g k refl refl) (angle_ends rest s) is

pub angle_printed : (enums : List EnumNames) (n : ℤ) → unsigned_abs n ≤ most_units → IsPrinted enums ty.Angle (printed enums (value.Angle n)) (value.Angle n)
angle_printed enums (pos n) h =
    as_text enums ty.Angle _ (printed_size 3 n ++ codes "deg") (value.Angle (pos n)) (printed_angle enums (pos n)) (plus enums ty.Angle (printed_size 3 n ++ codes "deg") (number.Angle (pos n)) (value.Angle (pos n)) (angle_there n h) (kept_angle (pos n)))
angle_printed enums (negsuc k) h =
    as_text enums ty.Angle _ (45 ∷ (printed_size 3 (suc k) ++ codes "deg")) (value.Angle (negsuc k)) (printed_angle enums (negsuc k)) (minus enums ty.Angle (printed_size 3 (suc k) ++ codes "deg") (number.Angle (pos (suc k))) (value.Angle (negsuc k)) (angle_there (suc k) h)
    (kept_angle (sat (pos 0 -ℤ pos (suc k))) ∙ ap (λ z. Some (value.Angle z)) (negated k h)))

-- percents
printed_percent : (enums : List EnumNames) (n : ℤ) → printed enums (value.Percent n) ≡ printed_millionths n ++ codes "%"
printed_percent enums n = ap (printed enums) (sym (value.rolls-Percent n)) ∙ fold-roll-Value (List ℕ) (printing_step enums) (shape.Percent n)

kept_percent : (n : ℤ) → converted (value.Percent n) ty.Percent ≡ Some (value.Percent n)
unfolding out-Ty denote.Hole.Carrier.out
kept_percent n = converted_percent n ty.Percent

percent_ends : (rest : List ℕ) → Stops rest → unit_length (codes "%" ++ rest) ≡ 1
percent_ends _ at_end = refl
percent_ends _ (at_comma s) = refl
percent_ends _ (at_bracket s) = refl
percent_ends _ (at_space s) = refl

percent_there : (n : ℕ) → n ≤ most_units → NumberThere (printed_size 6 n ++ codes "%") (number.Percent (pos n))
percent_there n h = λ rest qs s is.
    number_there 6 n (codes "%") rest (number.Percent (pos n)) qs h (exact 6 n (codes "%") (λ k. number.Percent (pos k)) (omega arith) refl refl (λ d k. refl) h) (λ w f g k. parts_before w f (codes "%" ++ rest) g k refl refl) (percent_ends rest s) is

pub percent_printed : (enums : List EnumNames) (n : ℤ) → unsigned_abs n ≤ most_units → IsPrinted enums ty.Percent (printed enums (value.Percent n)) (value.Percent n)
percent_printed enums (pos n) h =
    as_text enums ty.Percent _ (printed_size 6 n ++ codes "%") (value.Percent (pos n)) (printed_percent enums (pos n)) (plus enums ty.Percent (printed_size 6 n ++ codes "%") (number.Percent (pos n)) (value.Percent (pos n)) (percent_there n h) (kept_percent (pos n)))
percent_printed enums (negsuc k) h =
    as_text enums ty.Percent _ (45 ∷ (printed_size 6 (suc k) ++ codes "%")) (value.Percent (negsuc k)) (printed_percent enums (negsuc k)) (minus enums ty.Percent (printed_size 6 (suc k) ++ codes "%") (number.Percent (pos (suc k))) (value.Percent (negsuc k)) (percent_there (suc k) h)
    (kept_percent (sat (pos 0 -ℤ pos (suc k))) ∙ ap (λ z. Some (value.Percent z)) (negated k h)))

-- durations
printed_duration : (enums : List EnumNames) (n : ℤ) → printed enums (value.Duration n) ≡ signed_decimal n ++ codes "ms"
printed_duration enums n = ap (printed enums) (sym (value.rolls-Duration n)) ∙ fold-roll-Value (List ℕ) (printing_step enums) (shape.Duration n)

kept_duration : (n : ℤ) → converted (value.Duration n) ty.Duration ≡ Some (value.Duration n)
unfolding out-Ty denote.Hole.Carrier.out
kept_duration n = converted_duration n ty.Duration

duration_ends : (rest : List ℕ) → Stops rest → unit_length (codes "ms" ++ rest) ≡ 2
duration_ends _ at_end = refl
duration_ends _ (at_comma s) = refl
duration_ends _ (at_bracket s) = refl
duration_ends _ (at_space s) = refl

duration_there : (n : ℕ) → n ≤ most_units → NumberThere (printed_size 0 n ++ codes "ms") (number.Duration (pos n))
duration_there n h = λ rest qs s is.
    number_there 0 n (codes "ms") rest (number.Duration (pos n)) qs h (exact 0 n (codes "ms") (λ k. number.Duration (pos k)) (omega arith) refl refl (λ d k. refl) h) (λ w f g k. parts_before w f (codes "ms" ++ rest) g k refl refl) (duration_ends rest s) is

pub duration_printed : (enums : List EnumNames) (n : ℤ) → unsigned_abs n ≤ most_units → IsPrinted enums ty.Duration (printed enums (value.Duration n)) (value.Duration n)
duration_printed enums (pos n) h =
    as_text enums ty.Duration _ (printed_size 0 n ++ codes "ms") (value.Duration (pos n)) (printed_duration enums (pos n) ∙ ap (λ t. t ++ codes "ms") (plain_size n)) (plus enums ty.Duration (printed_size 0 n ++ codes "ms") (number.Duration (pos n)) (value.Duration (pos n)) (duration_there n h) (kept_duration (pos n)))
duration_printed enums (negsuc k) h =
    as_text enums ty.Duration _ (45 ∷ (printed_size 0 (suc k) ++ codes "ms")) (value.Duration (negsuc k)) (printed_duration enums (negsuc k) ∙ ap (λ t. 45 ∷ (t ++ codes "ms")) (plain_size (suc k))) (minus enums ty.Duration (printed_size 0 (suc k) ++ codes "ms") (number.Duration (pos (suc k))) (value.Duration (negsuc k)) (duration_there (suc k) h)
    (kept_duration (sat (pos 0 -ℤ pos (suc k))) ∙ ap (λ z. Some (value.Duration z)) (negated k h)))

-- numbers without a unit
bare_parts : (w f rest : List ℕ) → Stops rest → list_all is_ascii_digit w ≡ true → list_all is_ascii_digit f ≡ true → HasParts (w ++ (pointed f ++ rest)) w f rest
bare_parts w f _ at_end g k = parts_before w f [] g k tt tt
bare_parts w f _ (at_comma s) g k = parts_before w f (44 ∷ s) g k refl refl
bare_parts w f _ (at_bracket s) g k = parts_before w f (93 ∷ s) g k refl refl
bare_parts w f _ (at_space s) g k = parts_before w f (32 ∷ s) g k refl refl

bare_ends : (rest : List ℕ) → Stops rest → unit_length rest ≡ 0
bare_ends _ at_end = refl
bare_ends _ (at_comma s) = refl
bare_ends _ (at_bracket s) = refl
bare_ends _ (at_space s) = refl

bare_there : (p n : ℕ) (m : Number) → n ≤ most_units → number_value (printed_size p n ++ []) ≡ Some m → NumberThere (printed_size p n) m
bare_there p n m h e = λ rest qs s is.
    subst (λ t. AreParts (t ++ rest) (part.Number m ∷ qs)) (append-nil (printed_size p n)) (number_there p n [] rest m qs h e (λ w f g k. bare_parts w f rest s g k) (bare_ends rest s) is)

-- a number that is read as so many millionths of a float, also behind `-`
record IsFloatOf (n : ℕ) (m : Number) : Type 0 where
  kept : converted (number_as m) ty.Float ≡ Some (value.Float (pos n))
  below : (k : ℕ) → n ≡ suc k → converted (negative_as m) ty.Float ≡ Some (value.Float (negsuc k))

int_as_float : (z : ℤ) → converted (value.Int z) ty.Float ≡ Some (value.Float (z *ℤ pos 1000000))
unfolding out-Ty denote.Hole.Carrier.out
int_as_float z = converted_int z ty.Float

kept_float : (z : ℤ) → converted (value.Float z) ty.Float ≡ Some (value.Float z)
unfolding out-Ty denote.Hole.Carrier.out
kept_float z = converted_float z ty.Float

no_zero : (d : ℕ) → (suc d == 0) ≡ false
no_zero d = grind (arith, nat_tests)

whole_float : (d n : ℕ) → d * 1000000 ≡ n → d ≤ greatest_int → IsFloatOf n (plain_number d)
whole_float zero n e h =
    let none : 0 ≡ n = omega (arith, e) in
    record { kept = int_as_float (pos 0) ∙ ap (λ k. Some (value.Float (pos k))) none; below = λ k f. absurd (omega (arith, e, f)) }
whole_float (suc d) n e h =
    let up : pos (suc d) *ℤ pos 1000000 ≡ pos n = omega (arith, ints, e) in
    let down : (k : ℕ) → n ≡ suc k → negsuc d *ℤ pos 1000000 ≡ negsuc k = λ k f. omega (arith, ints, e, f) in
    subst (IsFloatOf n) (sym (ap (λ b. (if b then number.Zero else number.Int (pos (suc d)))) (no_zero d)))
    (record {
      kept = int_as_float (pos (suc d)) ∙ ap (λ z. Some (value.Float z)) up;
      below = λ k f. int_as_float (to_int (pos 0 -ℤ pos (suc d))) ∙ ap (λ z. Some (value.Float (z *ℤ pos 1000000))) (negated_int d (omega (arith, h))) ∙ ap (λ z. Some (value.Float z)) (down k f);
    })

exact_float : (n : ℕ) → n ≤ most_units → IsFloatOf n (number.Float (pos n))
exact_float n h = record {
  kept = kept_float (pos n);
  below = λ k f. (let fits : suc k ≤ most_units = omega (arith, f, h) in kept_float (sat (pos 0 -ℤ pos n)) ∙ ap (λ j. Some (value.Float (sat (pos 0 -ℤ pos j)))) f ∙ ap (λ z. Some (value.Float z)) (negated k fits));
}

-- what digits are worth that write so many millionths
float_worth : (d l n : ℕ) → d * 1000000 ≡ n * 10 ^ l → n ≤ most_units → (m : Number) × (digits_worth d l [] ≡ Some m) × IsFloatOf n m
float_worth d l n e h =
    elim (tested ((l == 0 && true) && nat_le d greatest_int)) [
      | inl passes ↦ let tests = both (l == 0 && true) (nat_le d greatest_int) passes in
          let none : l ≡ 0 = grind (arith, nat_tests, (both (l == 0) true tests.0).0) in
          let small : d ≤ greatest_int = grind (arith, nat_tests, tests.1) in
          let worth : d * 1000000 ≡ n = e ∙ ap (λ k. n * 10 ^ k) none ∙ omega arith in
          (plain_number d, ap (λ b. (if b then Some (plain_number d) else option_and_then (measured d l) (measure_of []))) passes, whole_float d n worth small)
      | inr fails ↦ (number.Float (pos n), ap (λ b. (if b then Some (plain_number d) else option_and_then (measured d l) (measure_of []))) fails ∙ measured_exactly 6 n d l [] (λ k. number.Float (pos k)) (λ x k. refl) e h, exact_float n h)
    ]

float_read : (n : ℕ) → n ≤ most_units → (m : Number) × (number_value (printed_size 6 n ++ []) ≡ Some m) × IsFloatOf n m
float_read n h =
    let w = float_worth _ _ n (digits_are 6 n (decimal_some 6 n h)) h in
    (w.0, by_digits 6 n [] (omega arith) refl h ∙ w.1, w.2)

printed_float : (enums : List EnumNames) (n : ℤ) → printed enums (value.Float n) ≡ printed_millionths n
printed_float enums n = ap (printed enums) (sym (value.rolls-Float n)) ∙ fold-roll-Value (List ℕ) (printing_step enums) (shape.Float n)

pub float_printed : (enums : List EnumNames) (n : ℤ) → unsigned_abs n ≤ most_units → IsPrinted enums ty.Float (printed enums (value.Float n)) (value.Float n)
float_printed enums (pos n) h =
    let r = float_read n h in
    as_text enums ty.Float _ (printed_size 6 n) (value.Float (pos n)) (printed_float enums (pos n)) (plus enums ty.Float (printed_size 6 n) r.0 (value.Float (pos n)) (bare_there 6 n r.0 h r.1) r.2.kept)
float_printed enums (negsuc k) h =
    let r = float_read (suc k) h in
    as_text enums ty.Float _ (45 ∷ printed_size 6 (suc k)) (value.Float (negsuc k)) (printed_float enums (negsuc k)) (minus enums ty.Float (printed_size 6 (suc k)) r.0 (value.Float (negsuc k)) (bare_there 6 (suc k) r.0 h r.1) (r.2.below k refl))

-- ints, of which the least is written behind `-` by a number that is no int
record IsIntOf (n : ℕ) (m : Number) : Type 0 where
  kept : n ≤ greatest_int → converted (number_as m) ty.Int ≡ Some (value.Int (pos n))
  below : (k : ℕ) → n ≡ suc k → converted (negative_as m) ty.Int ≡ Some (value.Int (negsuc k))

kept_int : (z : ℤ) → converted (value.Int z) ty.Int ≡ Some (value.Int z)
unfolding out-Ty denote.Hole.Carrier.out
kept_int z = converted_int z ty.Int

float_as_int : (z : ℤ) → converted (value.Float z) ty.Int ≡ Some (value.Int (to_int (int_div z (pos 1000000))))
unfolding out-Ty denote.Hole.Carrier.out
float_as_int z = converted_float z ty.Int

plain_int : (n : ℕ) → n ≤ greatest_int → IsIntOf n (plain_number n)
plain_int zero h = record { kept = λ g. kept_int (pos 0); below = λ k f. absurd (omega (arith, f)) }
plain_int (suc d) h =
    subst (IsIntOf (suc d)) (sym (ap (λ b. (if b then number.Zero else number.Int (pos (suc d)))) (no_zero d)))
    (record {
      kept = λ g. kept_int (pos (suc d));
      below = λ k f. (let same : d ≡ k = omega (arith, f) in kept_int (to_int (pos 0 -ℤ pos (suc d))) ∙ ap (λ z. Some (value.Int z)) (negated_int d (omega (arith, h))) ∙ ap (λ j. Some (value.Int (negsuc j))) same);
    })

least_int : IsIntOf 2147483648 (number.Float (pos 2147483648000000))
least_int = record {
  kept = λ g. absurd (omega (arith, g));
  below = λ k f. (let same : 2147483647 ≡ k = omega (arith, f) in float_as_int (sat (pos 0 -ℤ pos 2147483648000000)) ∙ ap (λ j. Some (value.Int (negsuc j))) same);
}

least_worth : digits_worth 2147483648 0 [] ≡ Some (number.Float (pos 2147483648000000))
least_worth = refl

int_worth : (n : ℕ) → n ≤ 2147483648 → (m : Number) × (digits_worth n 0 [] ≡ Some m) × IsIntOf n m
int_worth n h =
    elim (tested (nat_le n greatest_int)) [
      | inl passes ↦ (plain_number n, ap (λ b. (if b then Some (plain_number n) else option_and_then (measured n 0) (measure_of []))) passes, plain_int n (grind (arith, nat_tests, passes)))
      | inr fails ↦ let past : 2147483647 < n = grind (arith, nat_tests, fails) in
          let same : 2147483648 ≡ n = omega (arith, past, h) in
          (number.Float (pos 2147483648000000), ap (λ k. digits_worth k 0 []) (sym same) ∙ least_worth, subst (λ k. IsIntOf k (number.Float (pos 2147483648000000))) same least_int)
    ]

worth_by : (o : Option Number) (d l n : ℕ) (m : Number) → o ≡ digits_worth d l [] → l ≡ 0 → d * 10 ^ 0 ≡ n * 10 ^ l → digits_worth n 0 [] ≡ Some m → o ≡ Some m
worth_by o d l n m e none worth is =
    let whole : d * 10 ^ 0 ≡ n * 10 ^ 0 = worth ∙ ap (λ k. n * 10 ^ k) none in
    let same : d ≡ n = omega (arith, whole) in
    e ∙ ap (λ k. digits_worth d k []) none ∙ ap (λ k. digits_worth k 0 []) same ∙ is

int_read : (n : ℕ) → n ≤ 2147483648 → (m : Number) × (number_value (printed_size 0 n ++ []) ≡ Some m) × IsIntOf n m
int_read n h =
    let fits : n ≤ most_units = omega (arith, h) in
    let r = int_worth n h in
    (r.0, worth_by _ _ _ n r.0 (by_digits 0 n [] (omega arith) refl fits) (ap length (no_places (n % 10 ^ 0))) (digits_are 0 n (decimal_some 0 n fits)) r.1, r.2)

printed_int : (enums : List EnumNames) (n : ℤ) → printed enums (value.Int n) ≡ signed_decimal n
printed_int enums n = ap (printed enums) (sym (value.rolls-Int n)) ∙ fold-roll-Value (List ℕ) (printing_step enums) (shape.Int n)

pub int_printed : (enums : List EnumNames) (n : ℤ) → IsInt n → IsPrinted enums ty.Int (printed enums (value.Int n)) (value.Int n)
int_printed enums (pos n) h =
    let fits : n ≤ 2147483648 = omega (arith, h) in
    let r = int_read n fits in
    as_text enums ty.Int _ (printed_size 0 n) (value.Int (pos n)) (printed_int enums (pos n) ∙ plain_size n) (plus enums ty.Int (printed_size 0 n) r.0 (value.Int (pos n)) (bare_there 0 n r.0 (omega (arith, h)) r.1) (r.2.kept h))
int_printed enums (negsuc k) h =
    let fits : suc k ≤ 2147483648 = omega (arith, h) in
    let r = int_read (suc k) fits in
    as_text enums ty.Int _ (45 ∷ printed_size 0 (suc k)) (value.Int (negsuc k)) (printed_int enums (negsuc k) ∙ ap (λ t. 45 ∷ t) (plain_size (suc k))) (minus enums ty.Int (printed_size 0 (suc k)) r.0 (value.Int (negsuc k)) (bare_there 0 (suc k) r.0 (omega (arith, h)) r.1) (r.2.below k refl))

-- truth values
printed_truth : (enums : List EnumNames) (b : Bool) → printed enums (value.Bool b) ≡ printed_bool b
printed_truth enums b = ap (printed enums) (sym (value.rolls-Bool b)) ∙ fold-roll-Value (List ℕ) (printing_step enums) (shape.Bool b)

pub word_stops : (rest : List ℕ) → Stops rest → Fails is_word_byte rest
word_stops _ at_end = tt
word_stops _ (at_comma s) = refl
word_stops _ (at_bracket s) = refl
word_stops _ (at_space s) = refl

truth_word : (enums : List EnumNames) (b : Bool) → word_in enums (printed_bool b) (out-Ty ty.Bool) ≡ Some (value.Bool b)
unfolding out-Ty denote.Hole.Carrier.out
truth_word enums true = refl
truth_word enums false = refl

truth_there : (b : Bool) (rest : List ℕ) (qs : List Part) → Stops rest → AreParts rest qs → AreParts (printed_bool b ++ rest) (part.Word (printed_bool b) ∷ qs)
truth_there true rest qs s h = word_there (codes "true") rest qs refl (word_stops rest s) h
truth_there false rest qs s h = word_there (codes "false") rest qs refl (word_stops rest s) h

pub truth_printed : (enums : List EnumNames) (b : Bool) → IsPrinted enums ty.Bool (printed enums (value.Bool b)) (value.Bool b)
truth_printed enums b = as_text enums ty.Bool _ (printed_bool b) (value.Bool b) (printed_truth enums b) (record {
  parts = part.Word (printed_bool b) ∷ [];
  splits = λ rest qs s h. truth_there b rest qs s h;
  written = a_word ty.Bool (printed_bool b) (value.Bool b) (truth_word enums b);
})

-- texts
printed_str : (enums : List EnumNames) (t : List ℕ) → printed enums (value.Str t) ≡ printed_string t
printed_str enums t = ap (printed enums) (sym (value.rolls-Str t)) ∙ fold-roll-Value (List ℕ) (printing_step enums) (shape.Str t)

kept_str : (t : List ℕ) → converted (value.Str t) ty.Str ≡ Some (value.Str t)
unfolding out-Ty denote.Hole.Carrier.out
kept_str t = converted_text t ty.Str

string_there : (t rest : List ℕ) (qs : List Part) → IsUtf8 t → length t ≤ 65535 → AreParts rest qs → AreParts (printed_string t ++ rest) (part.Str t ∷ qs)
string_there t rest qs u h follows =
    let behind : List ℕ = 34 ∷ rest in
    let run : IsRun (printed_text t ++ behind) t behind = record { spelled = printed_reads t [] behind u; ended = refl } in
    subst (λ s. AreParts (34 ∷ s) (part.Str t ∷ qs)) (sym (append_assoc (printed_text t) (34 ∷ []) rest))
    (more 34 (printed_text t ++ behind) rest (part.Str t) qs (t, run, ap part.Str (sym (cut_text_whole t u h))) follows)

pub str_printed : (enums : List EnumNames) (t : List ℕ) → IsUtf8 t → length t ≤ 65535 → IsPrinted enums ty.Str (printed enums (value.Str t)) (value.Str t)
str_printed enums t u h = as_text enums ty.Str _ (printed_string t) (value.Str t) (printed_str enums t) (record {
  parts = part.Str t ∷ [];
  splits = λ rest qs s is. string_there t rest qs u h is;
  written = a_string ty.Str t (value.Str t) (kept_str t);
})

-- images
printed_picture : (enums : List EnumNames) (path : List ℕ) → printed enums (value.Image path) ≡ printed_image path
printed_picture enums path = ap (printed enums) (sym (value.rolls-Image path)) ∙ fold-roll-Value (List ℕ) (printing_step enums) (shape.Image path)

kept_image : (path : List ℕ) → converted (value.Image path) ty.Image ≡ Some (value.Image path)
unfolding out-Ty denote.Hole.Carrier.out
kept_image path = converted_image path ty.Image

image_there : (path rest : List ℕ) (qs : List Part) → IsUtf8 path → length path ≤ 65535 → AreParts rest qs
    → AreParts (printed_image path ++ rest) (part.Mark 64 ∷ part.Word (codes "image-url") ∷ part.Mark 40 ∷ part.Str path ∷ part.Mark 41 ∷ qs)
image_there path rest qs u h follows =
    let closed : List ℕ = 41 ∷ rest in
    let quoted : List ℕ = printed_string path ++ closed in
    let word : List ℕ = codes "mage-url" ++ 40 ∷ quoted in
    subst (λ t. AreParts (64 ∷ 105 ∷ (codes "mage-url" ++ 40 ∷ t)) (part.Mark 64 ∷ part.Word (codes "image-url") ∷ part.Mark 40 ∷ part.Str path ∷ part.Mark 41 ∷ qs)) (sym (append_assoc (printed_string path) (41 ∷ []) rest))
    (more 64 (105 ∷ word) (105 ∷ word) (part.Mark 64) (part.Word (codes "image-url") ∷ part.Mark 40 ∷ part.Str path ∷ part.Mark 41 ∷ qs) (refl, refl)
    (more 105 word (40 ∷ quoted) (part.Word (codes "image-url")) (part.Mark 40 ∷ part.Str path ∷ part.Mark 41 ∷ qs) (refl, refl)
    (more 40 quoted quoted (part.Mark 40) (part.Str path ∷ part.Mark 41 ∷ qs) (refl, refl) (string_there path closed (part.Mark 41 ∷ qs) u h (more 41 rest rest (part.Mark 41) qs (refl, refl) follows)))))

pub image_printed : (enums : List EnumNames) (path : List ℕ) → IsUtf8 path → length path ≤ 65535 → IsPrinted enums ty.Image (printed enums (value.Image path)) (value.Image path)
image_printed enums path u h = as_text enums ty.Image _ (printed_image path) (value.Image path) (printed_picture enums path) (record {
  parts = part.Mark 64 ∷ part.Word (codes "image-url") ∷ part.Mark 40 ∷ part.Str path ∷ part.Mark 41 ∷ [];
  splits = λ rest qs s is. image_there path rest qs u h is;
  written = an_image ty.Image path (value.Image path) (kept_image path);
})

-- colours
printed_paint : (enums : List EnumNames) (c : ℕ) → printed enums (value.Color c) ≡ printed_color c
printed_paint enums c = ap (printed enums) (sym (value.rolls-Color c)) ∙ fold-roll-Value (List ℕ) (printing_step enums) (shape.Color c)

kept_color : (c : ℕ) → converted (value.Color c) ty.Color ≡ Some (value.Color c)
unfolding out-Ty denote.Hole.Carrier.out
kept_color c = converted_color c ty.Color

color_stops : (rest : List ℕ) → Stops rest → Fails is_ascii_alphanumeric rest
color_stops _ at_end = tt
color_stops _ (at_comma s) = refl
color_stops _ (at_bracket s) = refl
color_stops _ (at_space s) = refl

pub color_printed : (enums : List EnumNames) (c : ℕ) → c < 2 ^ 32 → IsPrinted enums ty.Color (printed enums (value.Color c)) (value.Color c)
color_printed enums c h = as_text enums ty.Color _ (printed_color c) (value.Color c) (printed_paint enums c) (record {
  parts = part.Color c ∷ [];
  splits = λ rest qs s is. color_parts c rest qs h (color_stops rest s) is;
  written = a_color ty.Color c (value.Color c) (kept_color c);
})

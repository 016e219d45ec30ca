-- The parts of printed values.
use Rattle.std.proofs.Common.{◌≡◌, ℕ, ◌+◌, ◌<◌, ◌≤◌, ◌/◌, ◌%◌, ◌^◌, true, false, List, [], ◌∷◌, ◌++◌, length, take, drop, sym, ◌∙◌, ap, refl, subst, arith, append_assoc, length-append, Some}
use Rattle.std.specs.Prelude.{Bool, ◌==◌, ◌&&◌, ◌||◌, not, map, if◌then◌else◌}
use Rattle.std.specs.Char.{is_ascii_digit}
use Rattle.std.specs.Fmt.{decimal}
use Rattle.std.specs.List.{list_all, prefix_len, take_while}
use Rattle.std.specs.Option.{option_map}
use Rattle.std.proofs.lemmas.Bool.Decides.{nat_tests}
use Rattle.std.proofs.lemmas.Fmt.{decimal_is_IsNumeral}
use Rattle.std.proofs.lemmas.List.{take_at, drop_at}
use Rattle.slint_base.specs.Names.{dashed}
use Rattle.slint_base.specs.Numbers.{most_units}
use Rattle.slint_literals.specs.declared.numbers.Number.{Number}
use Rattle.slint_literals.specs.Numbers.{pointed, unit_length, number_length, number_value, starts_with_digit, fraction_of, unit_of}
use Rattle.slint_literals.proofs.Choices.{both, both_true}
use Rattle.slint_literals.proofs.NumberTexts.{HasParts, Fails, take_while-whole, drop_while-whole}
use Rattle.value_reading.specs.declared.parts.Part.{Part}
use Rattle.value_reading.specs.declared.parts.Part.TheVariants as part
use Rattle.value_reading.specs.declared.parts.Front.TheVariants.{Digit, Letter}
use Rattle.value_reading.specs.Parts.{is_word_start, is_word_byte, number_part, front_of, spelled, IsPart, AreParts, more}
use Rattle.value_reading.specs.Typed.{is_name_byte, is_name}
use Rattle.value_types.specs.Printed.{fraction_digits, printed_size}
use Rattle.value_types.proofs.Fractions.{rest_small}
use Rattle.value_reading.proofs.PrintedNumbers.{fraction, decimal_digits, decimal_some}

front_digit : (b : ℕ) → is_ascii_digit b ≡ true → front_of b ≡ Digit
front_digit b h = rw h refl

starts : (w t : List ℕ) → 0 < length w → list_all is_ascii_digit w ≡ true → starts_with_digit (w ++ t) ≡ true
starts [] t h k = absurd (omega arith)
starts (d ∷ ds) t h k = (both (is_ascii_digit d) (list_all is_ascii_digit ds) k).0

part_there : (text rest : List ℕ) (v : Number) (qs : List Part) → starts_with_digit text ≡ true → number_part text ≡ Some (part.Number v) → rest ≡ drop (number_length text) text → AreParts rest qs → AreParts text (part.Number v ∷ qs)
part_there [] rest v qs d e r h = cc
part_there (b ∷ s) rest v qs d e r h = more b s rest (part.Number v) qs (subst (λ f. IsPart f b s (part.Number v) rest) (sym (front_digit b d)) (e, r)) h

-- a printed number with a unit, before what doesn't go on with it
pub number_there : (p n : ℕ) (unit rest : List ℕ) (m : Number) (qs : List Part) → n ≤ most_units → number_value (printed_size p n ++ unit) ≡ Some m
    → ((w f : List ℕ) → list_all is_ascii_digit w ≡ true → list_all is_ascii_digit f ≡ true → HasParts (w ++ (pointed f ++ (unit ++ rest))) w f (unit ++ rest)) → unit_length (unit ++ rest) ≡ length unit
    → AreParts rest qs → AreParts ((printed_size p n ++ unit) ++ rest) (part.Number m ∷ qs)
number_there p n unit rest m qs h worth parts stops follows =
    let w = decimal (n / 10 ^ p) in
    let f = fraction_digits p (n % 10 ^ p) in
    let text = (printed_size p n ++ unit) ++ rest in
    let digits = decimal_digits (n / 10 ^ p) (decimal_some p n h) in
    let form : text ≡ w ++ (pointed f ++ (unit ++ rest)) = append_assoc (w ++ pointed f) unit rest ∙ append_assoc w (pointed f) (unit ++ rest) in
    let has : HasParts text w f (unit ++ rest) = subst (λ t. HasParts t w f (unit ++ rest)) (sym form) (parts w f digits (fraction p (n % 10 ^ p) (rest_small p n)).passes) in
    let count : number_length text ≡ length (printed_size p n ++ unit) =
    ap (λ ds. length ds + (length (pointed (fraction_of text)) + unit_length (unit_of text))) has.whole ∙ ap (λ ds. length w + (length (pointed ds) + unit_length (unit_of text))) has.fraction
    ∙ ap (λ ds. length w + (length (pointed f) + unit_length ds)) has.unit ∙ ap (λ k. length w + (length (pointed f) + k)) stops ∙ omega (arith, length-append (w ++ pointed f) unit, length-append w (pointed f)) in
    let front : take (number_length text) text ≡ printed_size p n ++ unit = take_at (printed_size p n ++ unit) rest (number_length text) (sym count) in
    let read : number_part text ≡ Some (part.Number m) = ap (λ t. option_map part.Number (number_value t)) front ∙ ap (option_map part.Number) worth in
    let begins : starts_with_digit text ≡ true = ap starts_with_digit form ∙ starts w (pointed f ++ (unit ++ rest)) (decimal_is_IsNumeral (n / 10 ^ p) (decimal_some p n h)).0.0 digits in
    part_there text rest m qs begins read (sym (drop_at (printed_size p n ++ unit) rest (number_length text) (sym count))) follows

-- a name, before what doesn't go on with a word
word_starts : (b : ℕ) → is_word_start b ≡ true → front_of b ≡ Letter
word_starts b h = grind (arith, nat_tests)

name_bytes : (s : List ℕ) → list_all is_name_byte s ≡ true → list_all is_word_byte s ≡ true
name_bytes [] h = refl
name_bytes (b ∷ s) h =
    let parts = both (is_name_byte b) (list_all is_name_byte s) h in
    both_true (is_word_byte b) (list_all is_word_byte s) (both (is_word_byte b) (not (b == 95)) parts.0).0 (name_bytes s parts.1)

undashed : (t : Bool) (b : ℕ) → (b == 95) ≡ t → not t ≡ true → dashed b ≡ b
undashed true b e h = absurd (cc)
undashed false b e h = ap (λ u. (if u then 45 else b)) e

no_dashes : (s : List ℕ) → list_all is_name_byte s ≡ true → map dashed s ≡ s
no_dashes [] h = refl
no_dashes (b ∷ s) h =
    let parts = both (is_name_byte b) (list_all is_name_byte s) h in
    ap (λ c. c ∷ map dashed s) (undashed (b == 95) b refl (both (is_word_byte b) (not (b == 95)) parts.0).1) ∙ ap (λ t. b ∷ t) (no_dashes s parts.1)

pub word_there : (w rest : List ℕ) (qs : List Part) → is_name w ≡ true → Fails is_word_byte rest → AreParts rest qs → AreParts (w ++ rest) (part.Word w ∷ qs)
word_there [] rest qs h stops follows = absurd (cc)
word_there (b ∷ s) rest qs h stops follows =
    let parts = both (is_word_start b) (list_all is_name_byte s) h in
    let first : is_word_byte b ≡ true = ap (λ t. t || (is_ascii_digit b || b == 45)) parts.0 in
    let all : list_all is_word_byte (b ∷ s) ≡ true = both_true (is_word_byte b) (list_all is_word_byte s) first (name_bytes s parts.1) in
    let front : take_while is_word_byte (b ∷ (s ++ rest)) ≡ b ∷ s = take_while-whole is_word_byte (b ∷ s) rest all stops in
    let back : drop (prefix_len is_word_byte (b ∷ (s ++ rest))) (b ∷ (s ++ rest)) ≡ rest = drop_while-whole is_word_byte (b ∷ s) rest all stops in
    let word : part.Word (b ∷ s) ≡ part.Word (spelled (take_while is_word_byte (b ∷ (s ++ rest)))) = sym (ap (λ t. part.Word (spelled t)) front ∙ ap (λ t. part.Word (b ∷ t)) (no_dashes s parts.1)) in
    more b (s ++ rest) rest (part.Word (b ∷ s)) qs (subst (λ f. IsPart f b (s ++ rest) (part.Word (b ∷ s)) rest) (sym (word_starts b parts.0)) (word, sym back)) follows

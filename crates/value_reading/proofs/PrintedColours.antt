-- That a printed colour is read as itself.
use Rattle.std.proofs.Common.{◌≡◌, ℕ, ◌+◌, ◌*◌, ◌/◌, ◌%◌, ◌^◌, ◌<◌, true, List, [], ◌∷◌, drop, ◌++◌, sym, ◌∙◌, ap, refl, arith, Some, None}
use Rattle.std.specs.Prelude.{if◌then◌else◌}
use Rattle.std.specs.Char.{digit_char, digit_value, is_ascii_hexdigit, is_ascii_alphanumeric}
use Rattle.std.specs.List.{list_all, take_while, prefix_len}
use Rattle.std.specs.Option.{option_map}
use Rattle.std.specs.Str.Parse.{digits_value}
use Rattle.std.proofs.lemmas.Bool.Decides.{nat_tests}
use Rattle.std.proofs.lemmas.Str.{digit_value-digit_char}
use Rattle.slint_literals.specs.Colours.{eight_digits, colour_value}
use Rattle.slint_literals.proofs.NumberTexts.{Fails, take_while-whole, drop_while-whole}
use Rattle.value_reading.specs.declared.parts.Part.{Part}
use Rattle.value_reading.specs.declared.parts.Part.TheVariants as part
use Rattle.value_reading.specs.Parts.{color_part, AreParts, more}
use Rattle.value_types.specs.Printed.{printed_color}

hex_passes : (d : ℕ) → d < 16 → is_ascii_hexdigit (digit_char d) ≡ true
hex_passes d h = grind (arith, nat_tests)

letter_passes : (d : ℕ) → d < 16 → is_ascii_alphanumeric (digit_char d) ≡ true
letter_passes d h = grind (arith, nat_tests)

worth : (d : ℕ) → d < 16 → digit_value (digit_char d) ≡ d
worth d h = digit_value-digit_char d (omega arith)

all_hex : (d0 d1 d2 d3 d4 d5 d6 d7 : ℕ) → d0 < 16 → d1 < 16 → d2 < 16 → d3 < 16 → d4 < 16 → d5 < 16 → d6 < 16 → d7 < 16 → list_all is_ascii_hexdigit (digit_char d0 ∷ digit_char d1 ∷ digit_char d2 ∷ digit_char d3 ∷ digit_char d4 ∷ digit_char d5 ∷ digit_char d6 ∷ digit_char d7 ∷ []) ≡ true
all_hex d0 d1 d2 d3 d4 d5 d6 d7 h0 h1 h2 h3 h4 h5 h6 h7 = rw (hex_passes d0 h0, hex_passes d1 h1, hex_passes d2 h2, hex_passes d3 h3, hex_passes d4 h4, hex_passes d5 h5, hex_passes d6 h6, hex_passes d7 h7) refl

all_letters : (d0 d1 d2 d3 d4 d5 d6 d7 : ℕ) → d0 < 16 → d1 < 16 → d2 < 16 → d3 < 16 → d4 < 16 → d5 < 16 → d6 < 16 → d7 < 16 → list_all is_ascii_alphanumeric (digit_char d0 ∷ digit_char d1 ∷ digit_char d2 ∷ digit_char d3 ∷ digit_char d4 ∷ digit_char d5 ∷ digit_char d6 ∷ digit_char d7 ∷ []) ≡ true
all_letters d0 d1 d2 d3 d4 d5 d6 d7 h0 h1 h2 h3 h4 h5 h6 h7 = rw (letter_passes d0 h0, letter_passes d1 h1, letter_passes d2 h2, letter_passes d3 h3, letter_passes d4 h4, letter_passes d5 h5, letter_passes d6 h6, letter_passes d7 h7) refl

value_is : (d0 d1 d2 d3 d4 d5 d6 d7 : ℕ) → d0 < 16 → d1 < 16 → d2 < 16 → d3 < 16 → d4 < 16 → d5 < 16 → d6 < 16 → d7 < 16 → digits_value 16 (digit_char d0 ∷ digit_char d1 ∷ digit_char d2 ∷ digit_char d3 ∷ digit_char d4 ∷ digit_char d5 ∷ digit_char d6 ∷ digit_char d7 ∷ []) ≡ (((((((d0 * 16 + d1) * 16 + d2) * 16 + d3) * 16 + d4) * 16 + d5) * 16 + d6) * 16 + d7)
value_is d0 d1 d2 d3 d4 d5 d6 d7 h0 h1 h2 h3 h4 h5 h6 h7 = rw (worth d0 h0, worth d1 h1, worth d2 h2, worth d3 h3, worth d4 h4, worth d5 h5, worth d6 h6, worth d7 h7) (omega arith)

color_is : (d0 d1 d2 d3 d4 d5 d6 d7 c : ℕ) (rest : List ℕ) (qs : List Part) → d0 < 16 → d1 < 16 → d2 < 16 → d3 < 16 → d4 < 16 → d5 < 16 → d6 < 16 → d7 < 16 → (((((((d0 * 16 + d1) * 16 + d2) * 16 + d3) * 16 + d4) * 16 + d5) * 16 + d6) * 16 + d7) ≡ c → Fails is_ascii_alphanumeric rest → AreParts rest qs
    → AreParts (35 ∷ digit_char d0 ∷ digit_char d1 ∷ digit_char d2 ∷ digit_char d3 ∷ digit_char d4 ∷ digit_char d5 ∷ digit_char d6 ∷ digit_char d7 ∷ rest) (part.Color c ∷ qs)
color_is d0 d1 d2 d3 d4 d5 d6 d7 c rest qs h0 h1 h2 h3 h4 h5 h6 h7 e stops follows =
    let s : List ℕ = digit_char d0 ∷ digit_char d1 ∷ digit_char d2 ∷ digit_char d3 ∷ digit_char d4 ∷ digit_char d5 ∷ digit_char d6 ∷ digit_char d7 ∷ [] in
    let letters = all_letters d0 d1 d2 d3 d4 d5 d6 d7 h0 h1 h2 h3 h4 h5 h6 h7 in
    let front : take_while is_ascii_alphanumeric (s ++ rest) ≡ s = take_while-whole is_ascii_alphanumeric s rest letters stops in
    let back : drop (prefix_len is_ascii_alphanumeric (s ++ rest)) (s ++ rest) ≡ rest = drop_while-whole is_ascii_alphanumeric s rest letters stops in
    let read : color_part (s ++ rest) ≡ Some (part.Color c) =
    ap (λ t. option_map part.Color (colour_value t)) front ∙ ap (λ b. option_map part.Color (if b then option_map (digits_value 16) (eight_digits s) else None)) (all_hex d0 d1 d2 d3 d4 d5 d6 d7 h0 h1 h2 h3 h4 h5 h6 h7)
    ∙ ap (λ n. Some (part.Color n)) (value_is d0 d1 d2 d3 d4 d5 d6 d7 h0 h1 h2 h3 h4 h5 h6 h7 ∙ e) in
    more 35 (s ++ rest) rest (part.Color c) qs (read, sym back) follows

pub color_parts : (c : ℕ) (rest : List ℕ) (qs : List Part) → c < 2 ^ 32 → Fails is_ascii_alphanumeric rest → AreParts rest qs → AreParts (printed_color c ++ rest) (part.Color c ∷ qs)
color_parts c rest qs h stops follows =
    color_is (c / 2 ^ 24 / 16) (c / 2 ^ 24 % 16) (c / 2 ^ 16 % 256 / 16) (c / 2 ^ 16 % 256 % 16) (c / 2 ^ 8 % 256 / 16) (c / 2 ^ 8 % 256 % 16) (c % 256 / 16) (c % 256 % 16) c rest qs
    (omega arith) (omega arith) (omega arith) (omega arith) (omega arith) (omega arith) (omega arith) (omega arith) (omega arith) stops follows

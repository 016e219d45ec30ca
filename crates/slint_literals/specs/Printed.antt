-- How texts are printed.
use Rattle.std.specs.Prelude.{ℕ, ◌/◌, ◌%◌, List, [], ◌∷◌, ◌++◌, ◌==◌, ◌||◌, nat_lt, if◌then◌else◌}
use Rattle.std.specs.Char.{digit_char}
use Rattle.std.specs.List.{flat_map}

-- a code below 256 in lower hexadecimal, without a leading zero
abbrev pub hexadecimal : ℕ → List ℕ
hexadecimal code = if nat_lt code 16 then digit_char code ∷ [] else digit_char (code / 16) ∷ digit_char (code % 16) ∷ []

-- a byte of a text inside a printed string: an escape for `"`, `\` and line feed, a code for other characters below U+0020 and for U+007F, else itself
abbrev pub printed_byte : ℕ → List ℕ
printed_byte b = if b == 34 then 92 ∷ 34 ∷ []
    else if b == 92 then 92 ∷ 92 ∷ []
    else if b == 10 then 92 ∷ 110 ∷ []
    else if nat_lt b 32 || b == 127 then 92 ∷ 117 ∷ 123 ∷ (hexadecimal b ++ 125 ∷ [])
    else b ∷ []

-- a text inside a printed string
abbrev pub printed_text : List ℕ → List ℕ
printed_text text = flat_map printed_byte text

-- a text printed as a string
abbrev pub printed_string : List ℕ → List ℕ
printed_string text = 34 ∷ (printed_text text ++ 34 ∷ [])

-- The `int` that a text spells.
use Rattle.std.specs.Prelude.{ℕ, ℤ, pos, neg_ℤ, Bool, false, List, [], ◌∷◌, drop, ◌==◌, nat_le, if◌then◌else◌, Option, None, Some, slice_index}
use Rattle.std.specs.List.{list_all}
use Rattle.std.specs.Char.{is_ascii_digit}
use Rattle.std.specs.Str.Parse.{digits_value}
use Rattle.slint_base.specs.Numbers.{greatest_int}

-- one digit or more
abbrev pub are_digits : List ℕ → Bool
are_digits [] = false
are_digits (b ∷ bs) = list_all is_ascii_digit (b ∷ bs)

-- a number at most this, where it is one
abbrev pub up_to : ℕ → (ℕ → ℤ) → ℕ → Option ℤ
up_to most signed n = if nat_le n most then Some (signed n) else None

-- the digits of a value, with its sign
abbrev pub digits_reading : ℕ → (ℕ → ℤ) → List ℕ → Option ℤ
digits_reading most signed digits = if are_digits digits then up_to most signed (digits_value 10 digits) else None

-- a text read as an int: an optional `-` and digits, between the ends of the type
abbrev pub int_reading : List ℕ → Option ℤ
int_reading text =
    if slice_index text 0 == 45 then digits_reading 2147483648 (λ n. neg_ℤ (pos n)) (drop 1 text) else digits_reading greatest_int pos text

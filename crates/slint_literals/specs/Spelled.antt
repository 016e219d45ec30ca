-- How numbers and colours are written so that they are read again.
use Rattle.std.specs.Prelude.{◌≡◌, ℕ, zero, suc, ◌/◌, ◌%◌, ◌^◌, ◌≤◌, ⊤, ℤ, pos, true, Some, List, [], ◌∷◌, ◌++◌, codes, unsigned_abs}
use Rattle.std.specs.Char.{digit_char}
use Rattle.std.specs.Fmt.{decimal}
use Rattle.slint_base.specs.Numbers.{greatest_int, most_units}
use Rattle.slint_literals.specs.declared.numbers.Number.{Number}
use Rattle.slint_literals.specs.declared.numbers.Number.TheVariants as numbers
use Rattle.slint_literals.specs.Numbers.{numeral, are_parts, number_value}

-- the last digits of a number in a base, so many of them
abbrev pub last_digits : ℕ → ℕ → ℕ → List ℕ
last_digits base zero n = []
last_digits base (suc count) n = last_digits base count (n / base) ++ digit_char (n % base) ∷ []

-- a number of smallest units of which 10 to the power of the places make one, with a point and all of the places
abbrev pub spelled_units : ℕ → ℕ → List ℕ
spelled_units places n = decimal (n / 10 ^ places) ++ 46 ∷ last_digits 10 places n

-- a number in all decimals of its type and with the unit that has them, so that reading it never rounds
abbrev pub spelled_number : Number → List ℕ
spelled_number numbers.Zero = codes "0"
spelled_number (numbers.Int n) = decimal (unsigned_abs n)
spelled_number (numbers.Float n) = spelled_units 6 (unsigned_abs n)
spelled_number (numbers.Percent n) = spelled_units 6 (unsigned_abs n) ++ codes "%"
spelled_number (numbers.Length n) = spelled_units 3 (unsigned_abs n) ++ codes "px"
spelled_number (numbers.Duration n) = decimal (unsigned_abs n) ++ codes "ms"
spelled_number (numbers.Angle n) = spelled_units 3 (unsigned_abs n) ++ codes "deg"

-- a colour with all of its digits
abbrev pub spelled_colour : ℕ → List ℕ
spelled_colour c = 35 ∷ last_digits 16 8 c

-- a value that is not negative, up to a limit
abbrev pub IsUpTo : ℕ → ℤ → Type 0
IsUpTo most z = (n : ℕ) × (z ≡ pos n) × (n ≤ most)

-- a number as reading gives it
abbrev pub ReadyNumber : Number → Type 0
ReadyNumber numbers.Zero = ⊤
ReadyNumber (numbers.Int z) = (n : ℕ) × (z ≡ pos (suc n)) × (suc n ≤ greatest_int)
ReadyNumber (numbers.Float z) = IsUpTo most_units z
ReadyNumber (numbers.Percent z) = IsUpTo most_units z
ReadyNumber (numbers.Length z) = IsUpTo most_units z
ReadyNumber (numbers.Duration z) = IsUpTo most_units z
ReadyNumber (numbers.Angle z) = IsUpTo most_units z

-- a text is a number's, and worth this number
pub record IsWorth (text : List ℕ) (n : Number) : Type 0 where
  pub whole : List ℕ
  pub fraction : List ℕ
  pub unit : List ℕ
  pub parts : are_parts whole fraction unit ≡ true
  pub is : text ≡ numeral whole fraction unit
  pub value : number_value text ≡ Some n

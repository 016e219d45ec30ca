-- How numbers are written, and what they are worth.
use Rattle.std.specs.Prelude.{◌≡◌, ℕ, ◌≤◌, true, take, ◌+◌, ◌*◌, ◌^◌, ℤ, pos, Bool, false, List, [], ◌∷◌, ◌++◌, length, drop, ◌==◌, ◌&&◌, ◌||◌, nat_lt, nat_le, if◌then◌else◌, codes, Option, Some, None, option_and_then}
use Rattle.std.specs.Char.{is_ascii_digit, is_ascii_alphabetic}
use Rattle.std.specs.List.{list_all, prefix_len, take_while}
use Rattle.std.specs.Str.{bytes_eq}
use Rattle.std.specs.Str.Parse.{digits_value}
use Rattle.slint_base.specs.Numbers.{greatest_int, most_units, near_size}
use Rattle.slint_literals.specs.declared.numbers.Number.{Number}
use Rattle.slint_literals.specs.declared.numbers.Number.TheVariants as numbers
use Rattle.slint_literals.specs.declared.measures.Quantity.{Quantity}
use Rattle.slint_literals.specs.declared.measures.Quantity.TheVariants.{Float, Percent, Length, Duration, Angle}
use Rattle.slint_literals.specs.declared.measures.Measure.{Measure}

-- digits behind a point, with the point; nothing where there are none
abbrev pub pointed : List ℕ → List ℕ
pointed [] = []
pointed (d ∷ ds) = 46 ∷ d ∷ ds

-- a number's text: the digits before the point, those behind it, and the unit
abbrev pub numeral : List ℕ → List ℕ → List ℕ → List ℕ
numeral whole fraction unit = whole ++ (pointed fraction ++ unit)

-- one digit or more
abbrev pub some_digits : List ℕ → Bool
some_digits [] = false
some_digits (d ∷ ds) = list_all is_ascii_digit (d ∷ ds)

-- a unit is `%`, or ASCII letters, or nothing
abbrev pub is_unit : List ℕ → Bool
is_unit unit = bytes_eq unit (codes "%") || list_all is_ascii_alphabetic unit

-- three parts that make a number's text: one digit or more, digits, and a unit
abbrev pub are_parts : List ℕ → List ℕ → List ℕ → Bool
are_parts whole fraction unit = some_digits whole && (list_all is_ascii_digit fraction && is_unit unit)

-- the digits at the front of a text, and what is behind them
abbrev pub whole_of : List ℕ → List ℕ
whole_of text = take_while is_ascii_digit text

abbrev pub behind_whole : List ℕ → List ℕ
behind_whole text = drop (prefix_len is_ascii_digit text) text

-- the digits behind a point, where a point lies there
abbrev pub behind_point : List ℕ → List ℕ
behind_point [] = []
behind_point (c ∷ cs) = if c == 46 then take_while is_ascii_digit cs else []

-- the digits behind the point of a number's text, and its unit
abbrev pub fraction_of : List ℕ → List ℕ
fraction_of text = behind_point (behind_whole text)

abbrev pub unit_of : List ℕ → List ℕ
unit_of text = drop (length (pointed (fraction_of text))) (behind_whole text)

-- the text is a number's: digits, optionally `.` and digits, then optionally a unit
abbrev pub is_number : List ℕ → Bool
is_number text = are_parts (whole_of text) (fraction_of text) (unit_of text)

-- one of a unit is so many smallest units of a type: a factor over a divisor
abbrev pub measure : Quantity → ℕ → ℕ → Option Measure
measure quantity factor divisor = Some (record { quantity = quantity; factor = factor; divisor = divisor })

-- what one of each unit is: floats count in millionths, percents in millionths of one per cent, lengths in thousandths of a px,
-- durations in milliseconds, angles in thousandths of a degree; an inch is 96 px, and 72 pt or 2.54 cm
abbrev pub measure_of : List ℕ → Option Measure
measure_of unit = if bytes_eq unit (codes "") then measure Float 1000000 1
    else if bytes_eq unit (codes "%") then measure Percent 1000000 1
    else if bytes_eq unit (codes "px") then measure Length 1000 1
    else if bytes_eq unit (codes "phx") then measure Length 1000 1
    else if bytes_eq unit (codes "in") then measure Length 96000 1
    else if bytes_eq unit (codes "pt") then measure Length 96000 72
    else if bytes_eq unit (codes "cm") then measure Length 9600000 254
    else if bytes_eq unit (codes "mm") then measure Length 960000 254
    else if bytes_eq unit (codes "ms") then measure Duration 1 1
    else if bytes_eq unit (codes "s") then measure Duration 1000 1
    else if bytes_eq unit (codes "deg") then measure Angle 1000 1
    else if bytes_eq unit (codes "grad") then measure Angle 900 1
    else if bytes_eq unit (codes "turn") then measure Angle 360000 1
    else None

-- so many smallest units of a type
abbrev pub number_in : Quantity → ℤ → Number
number_in Float n = numbers.Float n
number_in Percent n = numbers.Percent n
number_in Length n = numbers.Length n
number_in Duration n = numbers.Duration n
number_in Angle n = numbers.Angle n

-- a type has at most 9 * 10^15 of its smallest units
abbrev pub within_type : Quantity → ℕ → Option Number
within_type quantity units = if nat_le units most_units then Some (number_in quantity (pos units)) else None

-- digits of which so many stand behind the point, in a unit: rounded to the smallest unit, and up where two are as near
abbrev pub measured : ℕ → ℕ → Measure → Option Number
measured digits places m = within_type m.quantity (near_size (digits * m.factor) (m.divisor * 10 ^ places))

-- digits without a point or a unit, up to the greatest int
abbrev pub plain_number : ℕ → Number
plain_number digits = if digits == 0 then numbers.Zero else numbers.Int (pos digits)

-- what digits are worth, of which so many stand behind the point
abbrev pub digits_worth : ℕ → ℕ → List ℕ → Option Number
digits_worth digits places unit = if (places == 0 && length unit == 0) && nat_le digits greatest_int then Some (plain_number digits)
    else option_and_then (measured digits places) (measure_of unit)

-- a number has at most so many digits
abbrev pub most_digits : ℕ
most_digits = 30

-- what a number is worth, by its parts
abbrev pub worth : List ℕ → List ℕ → List ℕ → Option Number
worth whole fraction unit = if nat_lt most_digits (length whole + length fraction) then None
    else digits_worth (digits_value 10 (whole ++ fraction)) (length fraction) unit

-- what a number's text is worth; nothing where it is no number's text, has over 30 digits or an unknown unit, or is too great for its type
abbrev pub number_value : List ℕ → Option Number
number_value text = if is_number text then worth (whole_of text) (fraction_of text) (unit_of text) else None

-- how many bytes of a unit lie at the front
abbrev pub unit_length : List ℕ → ℕ
unit_length [] = 0
unit_length (b ∷ s) = if b == 37 then 1 else prefix_len is_ascii_alphabetic (b ∷ s)

-- how many bytes of a number lie at the front: digits, a point before a digit and digits, and a unit
abbrev pub number_length : List ℕ → ℕ
number_length text = length (whole_of text) + (length (pointed (fraction_of text)) + unit_length (unit_of text))

-- so many bytes at the front are a number's text, and no longer front is one
pub record IsLongestNumber (text : List ℕ) (count : ℕ) : Type 0 where
  pub within : count ≤ length text
  pub number : is_number (take count text) ≡ true
  pub longest : (more : ℕ) → more ≤ length text → is_number (take more text) ≡ true → more ≤ count

-- the text begins with a digit
abbrev pub starts_with_digit : List ℕ → Bool
starts_with_digit [] = false
starts_with_digit (b ∷ s) = is_ascii_digit b

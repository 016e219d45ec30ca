-- The grammar of text tables, line by line.
use Rattle.std.specs.Prelude.{ℕ, ◌+◌, ◌-◌, ◌*◌, Bool, ◌&&◌, ◌||◌, nat_eq, nat_le, nat_lt, if◌then◌else◌, ◌==◌, Option, None, Some, List, length, take, drop, codes}
use Rattle.std.specs.List.{fold, list_all, position, starts_with}

-- a decimal digit
abbrev pub is_digit : ℕ → Bool
is_digit b = nat_le 48 b && nat_le b 57

-- an upper hexadecimal digit, and its value
abbrev pub is_hex : ℕ → Bool
is_hex b = is_digit b || (nat_le 65 b && nat_le b 70)

abbrev pub hex_value : ℕ → ℕ
hex_value b = if nat_le b 57 then b - 48 else b - 55

-- the numbers that digits spell
abbrev pub decimal : List ℕ → ℕ
decimal digits = fold (λ n b. 10 * n + (b - 48)) 0 digits

abbrev pub hexadecimal : List ℕ → ℕ
hexadecimal digits = fold (λ n b. 16 * n + hex_value b) 0 digits

-- a number is 1 to 6 digits and at most 100,000
abbrev pub is_number : List ℕ → Bool
is_number bs = nat_le 1 (length bs) && nat_le (length bs) 6 && list_all is_digit bs && nat_le (decimal bs) 100000

abbrev pub number_of : List ℕ → Option ℕ
number_of bs = if is_number bs then Some (decimal bs) else None

-- a character is 4 to 6 upper hexadecimal digits of a scalar value
abbrev pub is_scalar : ℕ → Bool
is_scalar c = nat_lt c 55296 || (nat_le 57344 c && nat_lt c 1114112)

abbrev pub is_character : List ℕ → Bool
is_character bs = nat_le 4 (length bs) && nat_le (length bs) 6 && list_all is_hex bs && is_scalar (hexadecimal bs)

abbrev pub character_of : List ℕ → Option ℕ
character_of bs = if is_character bs then Some (hexadecimal bs) else None

-- what stands behind a word at the head of a line
abbrev pub behind_word : List ℕ → List ℕ → Option (List ℕ)
behind_word word line = if starts_with nat_eq line word then Some (drop (length word) line) else None

-- both of two things, where both are there
abbrev pub both_of : Option ℕ → Option ℕ → Option (ℕ × ℕ)
both_of None m = None
both_of (Some n) None = None
both_of (Some n) (Some m) = Some (n, m)

-- the number that is there
abbrev pub number_in : Option (List ℕ) → Option ℕ
number_in None = None
number_in (Some bs) = number_of bs

-- a character and a number, with one space between
abbrev pub pair_at : Option ℕ → List ℕ → Option (ℕ × ℕ)
pair_at None bs = None
pair_at (Some i) bs = both_of (character_of (take i bs)) (number_of (drop (i + 1) bs))

abbrev pub pair_in : Option (List ℕ) → Option (ℕ × ℕ)
pair_in None = None
pair_in (Some bs) = pair_at (position (λ b. b == 32) bs) bs

-- a line for a character
abbrev pub pair_of : List ℕ → Option (ℕ × ℕ)
pair_of line = pair_in (behind_word (codes "U+") line)

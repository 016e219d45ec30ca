-- Characters at the front of bytes.
use Rattle.std.specs.Prelude.{ℕ, Bool, List, [], ◌∷◌, take, ◌==◌, if◌then◌else◌, Option, Some, None, slice_index}
use Rattle.std.specs.Str.{is_utf8, chars}

-- the first of 1, 2, 3 and 4 whose test passes, else 0
abbrev pub first_passed : Bool → Bool → Bool → Bool → ℕ
first_passed one two three four = if one then 1 else if two then 2 else if three then 3 else if four then 4 else 0

-- how many bytes the character at the front has: the fewest that are UTF-8; 0 where no well-formed character lies there
abbrev pub char_len : List ℕ → ℕ
char_len [] = 0
char_len (b ∷ s) = let bytes = b ∷ s in first_passed (is_utf8 (take 1 bytes)) (is_utf8 (take 2 bytes)) (is_utf8 (take 3 bytes)) (is_utf8 (take 4 bytes))

-- the character at the front, where a well-formed one lies there
abbrev pub front_char : List ℕ → Option ℕ
front_char s = if char_len s == 0 then None else Some (slice_index (chars (take (char_len s) s)) 0)

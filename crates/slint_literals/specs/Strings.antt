-- The insides of strings.
use Rattle.std.specs.Prelude.{◌≡◌, ℕ, zero, suc, ◌+◌, ◌<◌, ◌≤◌, List, [], ◌∷◌, ◌++◌, take, drop, ◌==◌, ◌||◌, nat_lt, if◌then◌else◌, Option, Some, None, slice_index, encode_utf8}
use Rattle.std.specs.Char.{is_ascii_hexdigit}
use Rattle.std.specs.List.{prefix_len}
use Rattle.std.specs.Str.Parse.{digits_value}
use Rattle.std.proofs.Math.Utf8.{scalar}
use Rattle.slint_literals.specs.declared.strings.Look.{Look}
use Rattle.slint_literals.specs.declared.strings.Look.TheVariants.{Plain, Escape, Quote, Hole, BadEscape, NotUtf8, End}
use Rattle.slint_literals.specs.Characters.{char_len}
use Rattle.slint_literals.specs.Steps.{Steps}

-- a code that is a Unicode scalar value
abbrev pub scalar_of : ℕ → Option ℕ
scalar_of code = if scalar code then Some code else None

-- the character whose code the first count hex digits write, where they are 1 to 6 and a closing brace stands behind them
abbrev pub braced_char : ℕ → List ℕ → Option ℕ
braced_char count s = if count == 0 || nat_lt 6 count then None
    else if slice_index s count == 125 then scalar_of (digits_value 16 (take count s)) else None

-- a character by its code in braces, or else a bad escape
abbrev pub unicode_escape : ℕ → Option ℕ → Look
unicode_escape count None = BadEscape 2
unicode_escape count (Some c) = Escape c (count + 4)

-- what `\u` does before this text
abbrev pub unicode_look : List ℕ → Look
unicode_look [] = BadEscape 2
unicode_look (b ∷ s) = if b == 123 then unicode_escape (prefix_len is_ascii_hexdigit s) (braced_char (prefix_len is_ascii_hexdigit s) s) else BadEscape 2

-- what a backslash does before this text: a listed escape, a hole, or a bad escape that takes the next character with it
abbrev pub escape_look : List ℕ → Look
escape_look [] = BadEscape 1
escape_look (c ∷ s) = if c == 34 then Escape 34 2
    else if c == 92 then Escape 92 2
    else if c == 110 then Escape 10 2
    else if c == 123 then Hole
    else if c == 117 then unicode_look s
    else BadEscape (1 + char_len (c ∷ s))

-- a character of so many bytes
abbrev pub plain_look : ℕ → Look
plain_look zero = NotUtf8
plain_look (suc n) = Plain (suc n)

-- what lies at the front of the inside of a string
abbrev pub text_look : List ℕ → Look
text_look [] = End
text_look (b ∷ s) = if b == 34 then Quote else if b == 92 then escape_look s else plain_look (char_len (b ∷ s))

-- what is seen lies within so many bytes, and takes some
abbrev pub IsWithin : Look → ℕ → Type 0
IsWithin (Plain n) m = (0 < n) × (n ≤ m)
IsWithin (Escape c n) m = (0 < n) × (n ≤ m)
IsWithin Quote m = 1 ≤ m
IsWithin Hole m = 2 ≤ m
IsWithin (BadEscape n) m = (0 < n) × (n ≤ m)
IsWithin NotUtf8 m = 1 ≤ m
IsWithin End m = m ≡ 0

-- a text so far and what is left, behind one more character or escape
abbrev pub behind_look : Look → List ℕ → List ℕ → Option (List ℕ × List ℕ)
behind_look (Plain n) text s = Some (text ++ take n s, drop n s)
behind_look (Escape c n) text s = Some (text ++ encode_utf8 c, drop n s)
behind_look Quote text s = None
behind_look Hole text s = None
behind_look (BadEscape n) text s = None
behind_look NotUtf8 text s = None
behind_look End text s = None

-- one character or escape more of the inside of a string, if one lies there
abbrev pub text_step : List ℕ × List ℕ → Option (List ℕ × List ℕ)
text_step (text, s) = behind_look (text_look s) text s

-- so many bytes at the front are one character or escape, which goes behind the text; none where neither lies there
abbrev pub Takes : List ℕ → List ℕ → List ℕ → ℕ → Type 0
Takes text s after zero = (text_step (text, s) ≡ None) × (after ≡ text)
Takes text s after (suc n) = text_step (text, s) ≡ Some (after, drop (suc n) s)

-- the characters and escapes at the front of bytes spell the text, and what is behind them begins with neither
pub record IsRun (bytes text behind : List ℕ) : Type 0 where
  pub spelled : Steps text_step ([], bytes) (text, behind)
  pub ended : text_step (text, behind) ≡ None

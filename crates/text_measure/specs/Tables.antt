-- Tables of characters' widths.
use Rattle.std.specs.Prelude.{◌<◌, ℕ, ◌+◌, List, [], ◌∷◌, length, slice_index, if◌then◌else◌, ◌==◌}

-- how high a line is, how wide a character is that isn't listed, and the characters that are, with their widths: all in thousandths of the font size
pub record Table : Type 0 where
  pub line : ℕ
  pub default : ℕ
  pub pairs : List (ℕ × ℕ)

-- the table where none is given
abbrev pub plain_table : Table
plain_table = record { line = 1200; default = 500; pairs = [] }

-- characters and their widths, side by side
abbrev pub pairs_of : List ℕ → List ℕ → List (ℕ × ℕ)
pairs_of [] widths = []
pairs_of (c ∷ cs) [] = []
pairs_of (c ∷ cs) (w ∷ ws) = (c, w) ∷ pairs_of cs ws

-- each character is above those before it
abbrev pub IsRising : List ℕ → Type 0
IsRising characters = (i j : ℕ) → i < j → j < length characters → slice_index characters i < slice_index characters j

-- the width beside a character, or the one for characters that aren't listed
abbrev pub advance_in : List (ℕ × ℕ) → ℕ → ℕ → ℕ
advance_in [] default ch = default
advance_in (pair ∷ pairs) default ch = if pair.0 == ch then pair.1 else advance_in pairs default ch

-- the least character that may follow pairs: one more than the last, or this one
abbrev pub least_from : ℕ → List (ℕ × ℕ) → ℕ
least_from least [] = least
least_from least (pair ∷ pairs) = least_from (pair.0 + 1) pairs

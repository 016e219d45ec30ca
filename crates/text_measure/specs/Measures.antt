-- How much room a text takes.
use Rattle.std.specs.Prelude.{ℕ, ℤ, pos, negsuc, ◌+◌, ◌*◌, max, Bool, true, int_le, if◌then◌else◌, ◌==◌, Option, None, Some, List, [], ◌∷◌, map, sum}
use Rattle.std.specs.Str.{chars}
use Rattle.slint_base.specs.Numbers.{sat, near_size}
use Rattle.text_measure.specs.Tables.{Table, advance_in}
use Rattle.text_measure.specs.declared.measuring.Size.{Size}

-- the parts, the first of which begins with one more element
abbrev pub begun : ℕ → List (List ℕ) → List (List ℕ)
begun c [] = (c ∷ []) ∷ []
begun c (part ∷ parts) = (c ∷ part) ∷ parts

-- the parts of a list before, between and behind the elements that equal a separator
abbrev pub parts : ℕ → List ℕ → List (List ℕ)
parts separator [] = [] ∷ []
parts separator (c ∷ cs) = if c == separator then [] ∷ parts separator cs else begun c (parts separator cs)

-- a font size, or 0 for a negative one
abbrev pub font_size : ℤ → ℕ
font_size (pos n) = n
font_size (negsuc n) = 0

-- a number of thousandths of the font size
abbrev pub scaled : ℕ → ℕ → ℕ
scaled size n = near_size (n * size) 1000

-- the width of a character
abbrev pub char_width : Table → ℕ → ℕ → ℕ
char_width table size ch = scaled size (advance_in table.pairs table.default ch)

-- the width of characters side by side
abbrev pub width_of : Table → ℕ → List ℕ → ℕ
width_of table size [] = 0
width_of table size (c ∷ cs) = char_width table size c + width_of table size cs

-- the greatest of some numbers
abbrev pub greatest : List ℕ → ℕ
greatest [] = 0
greatest (n ∷ ns) = max n (greatest ns)

-- the width of the widest line: lines are the parts of the text at U+000A
abbrev pub text_width : Table → ℕ → List ℕ → ℕ
text_width table size cs = greatest (map (width_of table size) (parts 10 cs))

-- whether a row of this width fits: each does where no width is given
abbrev pub fits : Option ℤ → ℕ → Bool
fits None width = true
fits (Some room) width = int_le (pos width) room

-- how many words begin a new row, behind a row of this width so far: those that don't fit on it behind one space
abbrev pub breaks : Option ℤ → ℕ → ℕ → List ℕ → ℕ
breaks room space row [] = 0
breaks room space row (word ∷ words) =
    if fits room (row + space + word) then breaks room space (row + space + word) words else 1 + breaks room space word words

-- how many rows words of these widths take
abbrev pub rows_of : Option ℤ → ℕ → List ℕ → ℕ
rows_of room space [] = 1
rows_of room space (word ∷ words) = 1 + breaks room space word words

-- how many rows a line takes: its words are its parts at U+0020
abbrev pub line_rows : Table → ℕ → Option ℤ → List ℕ → ℕ
line_rows table size room line = rows_of room (char_width table size 32) (map (width_of table size) (parts 32 line))

-- how many rows a text takes
abbrev pub text_rows : Table → ℕ → Option ℤ → List ℕ → ℕ
text_rows table size room cs = sum (map (line_rows table size room) (parts 10 cs))

-- the size of a text: its widest line without wrapping, and its rows, wrapped where a width is given; both brought into the limits
abbrev pub measured : Table → List ℕ → ℤ → Option ℤ → Size
measured table text font room =
    let size = font_size font in
    record { width = sat (pos (text_width table size (chars text))); height = sat (pos (text_rows table size room (chars text) * scaled size table.line)) }

-- What a file reads as.
use Rattle.std.specs.Prelude.{ℕ, ◌+◌, min, Bool, nat_le, nat_lt, if◌then◌else◌, Option, None, Some, Result, Ok, Err, List, [], ◌∷◌, length, take, codes}
use Rattle.std.specs.Str.{bytes_eq}
use Rattle.text_measure.specs.Tables.{Table}
use Rattle.text_measure.specs.Measures.{parts}
use Rattle.text_measure.specs.Grammar.{behind_word, number_in, pair_of}
use Rattle.text_measure.specs.declared.faults.BadTable.{BadTable}

-- a longer file is no table, and of it only so many bytes are looked at
abbrev pub most_table_bytes : ℕ
most_table_bytes = 262144

-- a fault at a byte
abbrev pub bad_at : {A : Type 0} → ℕ → Result A BadTable
bad_at at = Err (record { at = at })

-- ---- lines

-- the lines among parts between U+000A: each but the last; the last one too where it isn't empty and isn't cut off
abbrev pub ended : Bool → List (List ℕ) → List (List ℕ)
ended cut [] = []
ended cut ([] ∷ []) = []
ended cut ((b ∷ bs) ∷ []) = if cut then [] else (b ∷ bs) ∷ []
ended cut (p ∷ q ∷ ps) = p ∷ ended cut (q ∷ ps)

-- the lines of bytes, behind which a file goes on or not
abbrev pub lines_in : Bool → List ℕ → List (List ℕ)
lines_in cut bytes = ended cut (parts 10 bytes)

-- where the line behind one begins
abbrev pub behind_line : ℕ → List ℕ → ℕ
behind_line at line = at + length line + 1

-- ---- lines in order: each takes where it begins

-- the first line, where what follows it is read by go; a fault at the end where it isn't there
abbrev pub heading_line : ℕ → List (List ℕ) → (ℕ → List (List ℕ) → Result Table BadTable) → Result Table BadTable
heading_line end [] go = bad_at end
heading_line end (line ∷ lines) go = if bytes_eq line (codes "texttable 1") then go (behind_line 0 line) lines else bad_at 0

-- what is read with a number that may be there
abbrev pub number_then : ℕ → Option ℕ → (ℕ → Result Table BadTable) → Result Table BadTable
number_then at None go = bad_at at
number_then at (Some n) go = go n

-- a line that is a word and a number, where what follows it is read by go
abbrev pub number_line : ℕ → List ℕ → ℕ → List (List ℕ) → (ℕ → ℕ → List (List ℕ) → Result Table BadTable) → Result Table BadTable
number_line end word at [] go = bad_at end
number_line end word at (line ∷ lines) go = number_then at (number_in (behind_word word line)) (λ n. go n (behind_line at line) lines)

-- a pair in front of those that follow it, where it may be there and its character is at least one
abbrev pub with_pair : ℕ × ℕ → Result (List (ℕ × ℕ)) BadTable → Result (List (ℕ × ℕ)) BadTable
with_pair pair (Ok pairs) = Ok (pair ∷ pairs)
with_pair pair (Err bad) = Err bad

abbrev pub pair_then : ℕ → ℕ → Option (ℕ × ℕ) → Result (List (ℕ × ℕ)) BadTable → Result (List (ℕ × ℕ)) BadTable
pair_then at least None others = bad_at at
pair_then at least (Some pair) others = if nat_le least pair.0 then with_pair pair others else bad_at at

-- the least character that may follow a pair
abbrev pub least_behind : Option (ℕ × ℕ) → ℕ
least_behind None = 0
least_behind (Some pair) = pair.0 + 1

-- the pairs of lines of which each is a character and its width, whose characters are at least one and rise
abbrev pub pairs_from : ℕ → ℕ → List (List ℕ) → Result (List (ℕ × ℕ)) BadTable
pairs_from at least [] = Ok []
pairs_from at least (line ∷ lines) = pair_then at least (pair_of line) (pairs_from (behind_line at line) (least_behind (pair_of line)) lines)

abbrev pub with_pairs : ℕ → ℕ → Result (List (ℕ × ℕ)) BadTable → Result Table BadTable
with_pairs height default (Ok pairs) = Ok (record { line = height; default = default; pairs = pairs })
with_pairs height default (Err bad) = Err bad

-- the three lines that are always there, where what follows them is read by go
abbrev pub head_in : ℕ → List (List ℕ) → (ℕ → ℕ → ℕ → List (List ℕ) → Result Table BadTable) → Result Table BadTable
head_in end lines go =
    heading_line end lines (λ at lines.
    number_line end (codes "line ") at lines (λ height at lines.
    number_line end (codes "default ") at lines (λ default at lines. go height default at lines)))

-- what lines read as
abbrev pub table_in : ℕ → List (List ℕ) → Result Table BadTable
table_in end lines = head_in end lines (λ height default at lines. with_pairs height default (pairs_from at 0 lines))

-- ---- files

-- a file that is too long has its fault there, if no line has one
abbrev pub unless_cut : Bool → ℕ → Result Table BadTable → Result Table BadTable
unless_cut cut end (Ok table) = if cut then bad_at end else Ok table
unless_cut cut end (Err bad) = Err bad

-- what a file reads as: the table, or where its first line begins that doesn't fit
abbrev pub read_as : List ℕ → Result Table BadTable
read_as bytes =
    let cut = nat_lt most_table_bytes (length bytes) in
    let end = min (length bytes) most_table_bytes in
    unless_cut cut end (table_in end (lines_in cut (take most_table_bytes bytes)))

-- Tables: rows of a key and what stands beside it.
use Rattle.std.specs.Prelude.{ℕ, Bool, true, ◌&&◌, if◌then◌else◌, List, [], ◌∷◌, map, Option, Some, None}
use Rattle.std.specs.Borrow.{Bor}
use Rattle.std.specs.Cmp.Lexicographic.{slice_cmp}
use Rattle.std.specs.Ordering.{nat_cmp, is_lt, is_gt}
use Rattle.std.specs.Str.{bytes_eq}
use Rattle.std.specs.declared.cmp.Ordering.{Ordering}

-- what stands beside the first key that passes a test
abbrev pub beside : {K T : Type 0} → (K → Bool) → List (K × T) → Option T
beside is_key [] = None
beside is_key (row ∷ rows) = if is_key row.0 then Some row.1 else beside is_key rows

-- what stands beside a name
abbrev pub named : {T : Type 0} → List ℕ → List (List ℕ × T) → Option T
named name rows = beside (λ key. bytes_eq key name) rows

-- whether a key is below the first one of some rows
abbrev pub is_below : {K T : Type 0} → (K → K → Ordering) → K → List (K × T) → Bool
is_below cmp key [] = true
is_below cmp key (row ∷ rows) = is_lt (cmp key row.0)

-- whether the keys of rows rise, no two alike
abbrev pub is_rising : {K T : Type 0} → (K → K → Ordering) → List (K × T) → Bool
is_rising cmp [] = true
is_rising cmp (row ∷ rows) = is_below cmp row.0 rows && is_rising cmp rows

-- a row put in its place among rows
abbrev pub insert_row : {K T : Type 0} → (K → K → Ordering) → K × T → List (K × T) → List (K × T)
insert_row cmp row [] = row ∷ []
insert_row cmp row (r ∷ rows) = if is_gt (cmp row.0 r.0) then r ∷ insert_row cmp row rows else row ∷ r ∷ rows

-- the same rows in the order of their keys
abbrev pub sorted : {K T : Type 0} → (K → K → Ordering) → List (K × T) → List (K × T)
sorted cmp [] = []
sorted cmp (row ∷ rows) = insert_row cmp row (sorted cmp rows)

-- byte order, in which a text is above those that it begins with
abbrev pub byte_order : List ℕ → List ℕ → Ordering
byte_order = slice_cmp nat_cmp

abbrev pub in_byte_order : {T : Type 0} → List (List ℕ × T) → List (List ℕ × T)
in_byte_order rows = sorted byte_order rows

-- a row of a table in code
abbrev pub row_of : {T : Type 0} → Bor (List ℕ) × T → List ℕ × T
row_of row = (row.0.now, row.1)

abbrev pub rows_of : {T : Type 0} → List (Bor (List ℕ) × T) → List (List ℕ × T)
rows_of table = map row_of table

-- the texts of a list in code
abbrev pub texts_of : List (Bor (List ℕ)) → List (List ℕ)
texts_of texts = map (λ text. text.now) texts

-- Rows of an array, each with a key of its own.
use Rattle.std.specs.Prelude.{◌≡◌, ℕ, zero, suc, ◌+◌, ◌<◌, ◌≤◌, ◌==◌, ◌⊎◌, Bool, not, nat_eq, All, List, [], ◌∷◌, length, insert, remove, slice_set, filter, Result, Ok, Err}
use Rattle.std.specs.List.{list_any, IsDistinct}
use Rattle.value_types.specs.declared.values.Value.{Value}
use Rattle.row_models.specs.declared.ends.RowEnd.{RowEnd}
use Rattle.row_models.specs.declared.ends.RowEnd.TheVariants.{NoRow, TooManyRows, Memory}

-- the items of an array, and the keys of its rows, in the same order
pub record RowList : Type 0 where
  pub items : List Value
  pub keys : List ℕ

-- ---- keys

-- a count of keys that follow each other
abbrev pub keys_from : ℕ → ℕ → List ℕ
keys_from key zero = []
keys_from key (suc count) = key ∷ keys_from (key + 1) count

-- whether a key is among others
abbrev pub is_among : List ℕ → ℕ → Bool
is_among keys key = list_any (λ k. k == key) keys

-- the old keys that aren't among those now
abbrev pub keys_gone : List ℕ → List ℕ → List ℕ
keys_gone now old = filter (λ key. not (is_among now key)) old

-- keys that differ from each other, and are all below the next fresh one
pub record AreApart (keys : List ℕ) (next : ℕ) : Type 0 where
  pub distinct : IsDistinct nat_eq keys
  pub below : All (λ key. key < next) keys

-- ---- lists of rows

-- rows whose keys are their places
abbrev pub rows_by_place : List Value → RowList
rows_by_place items = record { items = items; keys = keys_from 0 (length items) }

-- rows whose keys are fresh
abbrev pub fresh_rows : ℕ → List Value → RowList
fresh_rows next items = record { items = items; keys = keys_from next (length items) }

-- one more row, before the one at a place or behind all
abbrev pub with_row : RowList → ℕ → Value → ℕ → RowList
with_row rows at value key = record { items = insert rows.items at value; keys = insert rows.keys at key }

-- all rows but the one at a place
abbrev pub without_row : RowList → ℕ → RowList
without_row rows at = record { items = remove rows.items at; keys = remove rows.keys at }

-- another item at a place, with the key that its row has
abbrev pub with_item : RowList → ℕ → Value → RowList
with_item rows at value = record rows { items = slice_set rows.items at value }

-- an array in place of the old one: all stays where it has the same items, else all keys are fresh
abbrev pub IsReplaced : RowList → ℕ → List Value → RowList → ℕ → Type 0
IsReplaced old next items new next' =
    ((items ≡ old.items) × (new ≡ old) × (next' ≡ next)) ⊎ ((items ≡ old.items → ⊥) × (new ≡ fresh_rows next items) × (next' ≡ next + length items))

-- ---- how edits end

-- the most rows that an edit may make
abbrev pub most_rows : ℕ
most_rows = 1000

-- a row is inserted at or before the end, into fewer rows than that
abbrev pub InsertEnds : ℕ → ℕ → Result (Unit {0}) RowEnd → Type 0
InsertEnds rows at (Ok _) = (at ≤ rows) × (rows < most_rows)
InsertEnds rows at (Err NoRow) = rows < at
InsertEnds rows at (Err TooManyRows) = (at ≤ rows) × (most_rows ≤ rows)
InsertEnds rows at (Err Memory) = (at ≤ rows) × (rows < most_rows)

-- an array of at most that many items is taken
abbrev pub ResetEnds : ℕ → Result (Unit {0}) RowEnd → Type 0
ResetEnds items (Ok _) = items ≤ most_rows
ResetEnds items (Err NoRow) = ⊥
ResetEnds items (Err TooManyRows) = most_rows < items
ResetEnds items (Err Memory) = items ≤ most_rows

-- The elements that are written directly in each element, as tables.
use Rattle.std.specs.Prelude.{◌≡◌, ℕ, List, [], ◌∷◌, ◌++◌, slice_get, slice_set, Option, Some, None}
use Rattle.typed_tree.specs.declared.outlines.ElementOutline.{ElementOutline}
use Rattle.typed_tree.specs.declared.trees.TypedComponent.{TypedComponent}
use Rattle.expanded_tree.specs.Components.{elements_at}
use Rattle.expanded_tree.specs.Order.{children_of}

abbrev pub row_in : Option (List ℕ) → List ℕ
row_in None = []
row_in (Some row) = row

abbrev pub rows_in : Option (List (List ℕ)) → List (List ℕ)
rows_in None = []
rows_in (Some rows) = rows

abbrev pub row_at : List (List ℕ) → ℕ → List ℕ
row_at rows e = row_in (slice_get rows e)

abbrev pub row_of : List (List (List ℕ)) → ℕ → ℕ → List ℕ
row_of tables c e = row_at (rows_in (slice_get tables c)) e

-- one more child in a row
abbrev pub with_child_at : List (List ℕ) → ℕ → ℕ → List (List ℕ)
with_child_at rows p child = slice_set rows p (row_at rows p ++ child ∷ [])

abbrev pub with_child : List (List ℕ) → Option ℕ → ℕ → List (List ℕ)
with_child rows None child = rows
with_child rows (Some p) child = with_child_at rows p child

-- the rows are those of a component's elements
abbrev pub AreRows : List ElementOutline → List (List ℕ) → Type 0
AreRows elements rows = (e : ℕ) → row_at rows e ≡ children_of elements e

-- the tables are those of all components
abbrev pub AreChildren : List TypedComponent → List (List (List ℕ)) → Type 0
AreChildren comps tables = (c e : ℕ) → row_of tables c e ≡ children_of (elements_at comps c) e

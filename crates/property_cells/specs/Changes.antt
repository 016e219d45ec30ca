-- Which facets of a value change.
use Rattle.std.specs.Prelude.{◌≡◌, ◌≢◌, ℕ, ◌<◌, Bool, List, [], length, slice_get, ◌⊎◌, IsTrue}
use Rattle.dep_list.specs.Pairs.{In}
use Rattle.value_types.specs.declared.values.Value.{Value}
use Rattle.value_types.specs.declared.values.Value.{out-Value}
use Rattle.value_types.specs.declared.values.Value.TheOpen as form
use Rattle.value_types.specs.declared.facets.Facet.{Facet}
use Rattle.value_types.specs.declared.facets.Facet.TheVariants.{Whole, Length, Row}
use Rattle.property_cells.specs.declared.points.Entry.{Entry}
use Rattle.property_cells.specs.Points.{entry_at}

-- the items of an array, or of a repeater's rows
abbrev pub items_in : form.Value-F Value → List Value
items_in (form.Array items) = items
items_in (form.Keys keys items) = items
items_in _ = []

abbrev pub items_of : Value → List Value
items_of v = items_in (out-Value v)

-- whether the facet changes: all of it where the values differ, its length where the lengths or the lists of keys differ, and a row where the items differ or one is missing
abbrev pub Differs : Value → Value → Bool → Facet → Type 0
Differs old new new_keys Whole = old ≢ new
Differs old new new_keys Length = IsTrue new_keys ⊎ (length (items_of old) ≢ length (items_of new))
Differs old new new_keys (Row i) = slice_get (items_of old) i ≢ slice_get (items_of new) i

-- the facet changes where the item at a place does
abbrev pub IsOfItem : ℕ → Facet → Type 0
IsOfItem place Whole = Unit {0}
IsOfItem place Length = ⊥
IsOfItem place (Row i) = i ≡ place

-- the points of a cell of which the facet changes
pub record AreHits (es : List Entry) (cell : ℕ) (differs : Facet → Type 0) (hits : List ℕ) : Type 0 where
  pub sound : (p : ℕ) → In p hits → ((entry_at es p).cell ≡ cell) × differs (entry_at es p).facet
  pub complete : (p : ℕ) → p < length es → (entry_at es p).cell ≡ cell → differs (entry_at es p).facet → In p hits

-- Points: numbers given to pairs of a cell and what of it is read, in the order in which they were given.
use Rattle.std.specs.Prelude.{◌≡◌, ◌≢◌, ℕ, zero, suc, ◌+◌, ◌<◌, ◌==◌, if◌then◌else◌, List, [], ◌∷◌, length, Option, Some, None, slice_index_or}
use Rattle.value_types.specs.declared.facets.Facet.{Facet}
use Rattle.value_types.specs.declared.facets.Facet.TheVariants.{Whole}
use Rattle.property_cells.specs.declared.points.Entry.{Entry}

abbrev pub no_entry : Entry
no_entry = record { cell = 0; facet = Whole; next = None }

abbrev pub entry_at : List Entry → ℕ → Entry
entry_at es p = slice_index_or es p no_entry

-- the cell and the facet of a point
abbrev pub name_at : List Entry → ℕ → ℕ × Facet
name_at es p = ((entry_at es p).cell, (entry_at es p).facet)

-- the last point of a cell below a number
abbrev pub last_below : List Entry → ℕ → ℕ → Option ℕ
last_below es c zero = None
last_below es c (suc n) = if (entry_at es n).cell == c then Some n else last_below es c n

-- the points of a cell below a number, the last first
abbrev pub points_below : List Entry → ℕ → ℕ → List ℕ
points_below es c zero = []
points_below es c (suc n) = if (entry_at es n).cell == c then n ∷ points_below es c n else points_below es c n

-- the points of a cell
abbrev pub points_of : List Entry → ℕ → List ℕ
points_of es c = points_below es c (length es)

-- each point leads to the one of the same cell before it, and each cell to its last
pub record IsThreaded (es : List Entry) (ends : List (Option ℕ)) : Type 0 where
  pub nexts : (p : ℕ) → p < length es → (entry_at es p).next ≡ last_below es (entry_at es p).cell p
  pub lasts : (c : ℕ) → c < length ends → slice_index_or ends c None ≡ last_below es c (length es)
  pub cells : (p : ℕ) → p < length es → (entry_at es p).cell < length ends

-- no point has this cell and facet
abbrev pub IsNew : List Entry → ℕ × Facet → Type 0
IsNew es name = (p : ℕ) → p < length es → name_at es p ≢ name

-- the table with a point more, of this cell and facet
pub record AddsPoint (old new : List Entry) (name : ℕ × Facet) : Type 0 where
  pub more : length new ≡ length old + 1
  pub named : name_at new (length old) ≡ name
  pub kept : (p : ℕ) → p < length old → name_at new p ≡ name_at old p

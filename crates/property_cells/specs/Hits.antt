-- What marking does where facets of one cell change.
use Rattle.std.specs.Prelude.{◌≡◌, ℕ, List, map, ◌⊎◌}
use Rattle.dep_list.specs.Pairs.{readers_of}
use Rattle.property_cells.specs.declared.points.Entry.{Entry}
use Rattle.value_types.specs.declared.facets.Facet.{Facet}
use Rattle.property_cells.specs.Points.{entry_at, name_at}
use Rattle.property_cells.specs.Changes.{AreHits}
use Rattle.property_cells.specs.Marks.{Pending, all_marked, points_marked}

-- the point is of the cell, and its facet changes
abbrev pub Hit : List Entry → ℕ → (Facet → Type 0) → ℕ → Type 0
Hit es cell differs p = ((entry_at es p).cell ≡ cell) × differs (entry_at es p).facet

module _ (pairs : List (ℕ × ℕ)) (es : List Entry) (differs : Facet → Type 0) where
  -- the readers of a point are marked exactly where its facet changes
  abbrev pub Looked : ℕ → Pending → Pending → Type 0
  Looked p before after = (differs (entry_at es p).facet × (after ≡ all_marked (readers_of p pairs) before)) ⊎ ((differs (entry_at es p).facet → ⊥) × (after ≡ before))

module _ (pairs : List (ℕ × ℕ)) (es : List Entry) (cell : ℕ) (differs : Facet → Type 0) where
  -- the readers of all points of the cell of which the facet changes are marked
  pub record MarksHits (before after : Pending) : Type 0 where
    pub hits : List ℕ
    pub are : AreHits es cell differs hits
    pub same : after ≡ points_marked pairs hits before

-- the pairs with each point as its cell and facet
abbrev pub named : List Entry → List (ℕ × ℕ) → List (ℕ × (ℕ × Facet))
named es pairs = map (λ x. (x.0, name_at es x.1)) pairs

-- what was read is of the cell, and its facet changes
abbrev pub Touches : ℕ → (Facet → Type 0) → ℕ × Facet → Type 0
Touches cell differs x = (x.0 ≡ cell) × differs x.1

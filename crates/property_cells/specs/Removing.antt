-- What is taken out with some cells.
use Rattle.std.specs.Prelude.{◌≡◌, ℕ, ◌<◌, ◌≤◌, ◌==◌, ◌⊎◌, Bool, not, ◌&&◌, List, length, Option, None, slice_index_or}
use Rattle.value_types.specs.declared.values.Value.{Value}
use Rattle.property_cells.specs.declared.points.Entry.{Entry}
use Rattle.property_cells.specs.Points.{entry_at}
use Rattle.property_cells.specs.Net.{is_outside}

-- a pair of which the point is another cell's
abbrev pub is_of_other : List Entry → ℕ → ℕ × ℕ → Bool
is_of_other es c y = not ((entry_at es y.1).cell == c)

-- a pair of which neither the reader nor the point's cell is one of some cells
abbrev pub is_apart : List Entry → ℕ → ℕ → ℕ × ℕ → Bool
is_apart es first past y = is_outside first past y.0 && is_outside first past (entry_at es y.1).cell

-- values of which those of some cells are given back
pub record AreDropped (before after : List (Option Value)) (first past : ℕ) : Type 0 where
  pub others : (c : ℕ) → (c < first) ⊎ (past ≤ c) → slice_index_or after c None ≡ slice_index_or before c None
  pub count : length after ≡ length before

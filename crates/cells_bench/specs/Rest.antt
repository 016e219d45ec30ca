-- Cells between two rounds.
use Rattle.std.specs.Prelude.{◌≡◌, ℕ, ◌<◌, []}
use Rattle.property_cells.specs.Net.{Cell, no_cell, invalid_cell, running_cell, valid_cell, assigned_cell, Net, cell_in, Stands}

-- the cell is there and doesn't run
abbrev pub IsIdle : Cell → Type 0
IsIdle no_cell = ⊥
IsIdle invalid_cell = Unit {0}
IsIdle running_cell = ⊥
IsIdle (valid_cell v) = Unit {0}
IsIdle (assigned_cell v) = Unit {0}

-- the cells below a number are there, and none runs
pub record AtRest (count : ℕ) (n : Net) : Type 0 where
  pub idle : (c : ℕ) → c < count → IsIdle (cell_in n c)
  pub running : n.running ≡ []

-- the cells below a number have values
abbrev pub AllStand : ℕ → Net → Type 0
AllStand count n = (c : ℕ) → c < count → Stands (cell_in n c)

-- What the parts of `Cells` are seen as together, and what they keep.
use Rattle.std.specs.Prelude.{◌≡◌, ◌≢◌, ℕ, ◌<◌, ◌≤◌, List, [], ◌∷◌, length, Option, Some, None, IsSome, slice_index_or, ◌⊎◌}
use Rattle.dep_list.specs.Pairs.{In}
use Rattle.value_types.specs.declared.values.Value.{Value}
use Rattle.value_types.specs.declared.facets.Facet.{Facet}
use Rattle.property_cells.specs.declared.marks.State.{State}
use Rattle.property_cells.specs.declared.marks.State.TheVariants.{Gone, Invalid, Running, Valid, Assigned, Marked}
use Rattle.property_cells.specs.declared.marks.Mark.{Mark}
use Rattle.property_cells.specs.declared.points.Entry.{Entry}
use Rattle.property_cells.specs.declared.store.Store.{Store}
use Rattle.property_cells.specs.Reach.{Distinct}
use Rattle.property_cells.specs.Points.{name_at, IsThreaded}
use Rattle.property_cells.specs.Marks.{state_at, HasValue, EachInside}
use Rattle.property_cells.specs.Hits.{named}
use Rattle.property_cells.specs.Blocks.{AreFree}
use Rattle.property_cells.specs.Net.{Cell, no_cell, invalid_cell, running_cell, valid_cell, assigned_cell, Net}

-- a cell by its state and the value that is kept for it
abbrev pub cell_of : State → Option Value → Cell
cell_of Gone v = no_cell
cell_of Invalid v = invalid_cell
cell_of Running v = running_cell
cell_of Valid (Some v) = valid_cell v
cell_of Valid None = invalid_cell
cell_of Assigned (Some v) = assigned_cell v
cell_of Assigned None = invalid_cell
cell_of Marked v = invalid_cell

abbrev pub cells_of : List Mark → List (Option Value) → List Cell
cells_of [] vs = []
cells_of (m ∷ ms) [] = cell_of m.state None ∷ cells_of ms []
cells_of (m ∷ ms) (v ∷ vs) = cell_of m.state v ∷ cells_of ms vs

abbrev pub seen : Store → Net
seen s = record { cells = cells_of s.marks.cells.items s.values.items; pairs = named s.points.entries.items s.deps.pairs; running = s.running.list; runs = s.runs }

-- what the states of cells keep with the pairs and the cells that run
pub record IsNetwork (states : ℕ → State) (pairs : List (ℕ × (ℕ × Facet))) (running : List ℕ) : Type 0 where
  pub stands : (r : ℕ) (x : ℕ × Facet) → In (r, x) pairs → (states r ≡ Valid) ⊎ (states r ≡ Running) → HasValue (states x.0)
  pub bare : (r : ℕ) (x : ℕ × Facet) → In (r, x) pairs → states r ≢ Assigned
  pub live : (r : ℕ) (x : ℕ × Facet) → In (r, x) pairs → (states r ≢ Gone) × (states x.0 ≢ Gone)
  pub once : Distinct pairs
  pub distinct : Distinct running
  pub runs : (c : ℕ) → In c running → states c ≡ Running
  pub listed : (c : ℕ) → states c ≡ Running → In c running
  pub unmarked : (c : ℕ) → states c ≢ Marked

-- the tables reach as far as the cells, and the pairs may be of all cells and points
pub record HasRoom (s : Store) : Type 0 where
  pub lasts : length s.marks.cells.items ≤ length s.points.lasts.items
  pub values : length s.marks.cells.items ≤ length s.values.items
  pub running : length s.marks.cells.items ≤ s.running.cells
  pub blocks : length s.marks.cells.items ≤ s.blocks.cells
  pub readers : length s.marks.cells.items ≤ s.deps.readers
  pub points : length s.points.entries.items ≤ s.deps.points

-- points, runs and free blocks have room for so many cells
pub record HasTables (cells : ℕ) (s : Store) : Type 0 where
  pub lasts : cells ≤ length s.points.lasts.items
  pub running : cells ≤ s.running.cells
  pub blocks : cells ≤ s.blocks.cells

-- values and pairs have
pub record HasEnds (cells : ℕ) (s : Store) : Type 0 where
  pub values : cells ≤ length s.values.items
  pub readers : cells ≤ s.deps.readers

-- no two points have the same name
abbrev pub NamedOnce : List Entry → Type 0
NamedOnce es = (p q : ℕ) → p < length es → q < length es → name_at es p ≡ name_at es q → p ≡ q

pub record Held (s : Store) : Type 0 where
  pub network : IsNetwork (state_at s.marks.cells.items) (named s.points.entries.items s.deps.pairs) s.running.list
  pub valued : (c : ℕ) → HasValue (state_at s.marks.cells.items c) → IsSome (slice_index_or s.values.items c None)
  pub free : AreFree (state_at s.marks.cells.items) (length s.marks.cells.items) s.blocks.blocks
  pub threaded : IsThreaded s.points.entries.items s.points.lasts.items
  pub named_once : NamedOnce s.points.entries.items
  pub inside : EachInside (length s.marks.cells.items) (length s.points.entries.items) s.deps.pairs
  pub room : HasRoom s
  pub idle : s.marks.head ≡ None

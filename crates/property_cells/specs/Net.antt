-- What a contract sees of `Cells`, and what each call does to it.
use Rattle.std.specs.Prelude.{◌≡◌, ◌≢◌, ℕ, ◌+◌, ◌<◌, ◌≤◌, ◌==◌, Bool, not, ◌&&◌, List, [], ◌∷◌, ◌++◌, length, filter, Option, Some, None, slice_set, slice_index_or, min, nat_le, nat_lt, ◌⊎◌}
use Rattle.dep_list.specs.Pairs.{In}
use Rattle.value_types.specs.declared.values.Value.{Value}
use Rattle.value_types.specs.declared.values.Value.{out-Value}
use Rattle.value_types.specs.declared.values.Value.TheOpen as form
use Rattle.value_types.specs.declared.facets.Facet.{Facet}
use Rattle.property_cells.specs.declared.states.CellState.{CellState}
use Rattle.property_cells.specs.declared.states.CellState.TheVariants.{Invalid, Running, Valid, Assigned}
use Rattle.property_cells.specs.Reach.{Reached, Distinct}
use Rattle.property_cells.specs.Hits.{Touches}
use Rattle.property_cells.specs.Changes.{Differs}

-- what is seen of a number: no cell has it, or its cell is invalid, runs, or is valid or assigned with a value
pub data Cell : Type 0 where
  no_cell : Cell
  invalid_cell : Cell
  running_cell : Cell
  valid_cell : Value → Cell
  assigned_cell : Value → Cell

-- the cells by number, each pair of a cell and the facet of a cell that it has read, in order of reading, the cells that run, the innermost first, and how many runs have ended
pub record Net : Type 0 where
  pub cells : List Cell
  pub pairs : List (ℕ × (ℕ × Facet))
  pub running : List ℕ
  pub runs : ℕ

-- no cell at all
abbrev pub no_cells : Net
no_cells = record { cells = []; pairs = []; running = []; runs = 0 }

abbrev pub cell_in : Net → ℕ → Cell
cell_in n c = slice_index_or n.cells c no_cell

-- the state of a cell, where there is one
abbrev pub state_of : Cell → Option CellState
state_of no_cell = None
state_of invalid_cell = Some Invalid
state_of running_cell = Some Running
state_of (valid_cell v) = Some Valid
state_of (assigned_cell v) = Some Assigned

-- the value of a cell that is valid or assigned
abbrev pub value_of : Cell → Option Value
value_of no_cell = None
value_of invalid_cell = None
value_of running_cell = None
value_of (valid_cell v) = Some v
value_of (assigned_cell v) = Some v

-- the cell is valid or assigned
abbrev pub Stands : Cell → Type 0
Stands no_cell = ⊥
Stands invalid_cell = ⊥
Stands running_cell = ⊥
Stands (valid_cell v) = Unit {0}
Stands (assigned_cell v) = Unit {0}

-- the cell has read, or is reading: it is valid or runs
abbrev pub Reads : Cell → Type 0
Reads no_cell = ⊥
Reads invalid_cell = ⊥
Reads running_cell = Unit {0}
Reads (valid_cell v) = Unit {0}
Reads (assigned_cell v) = ⊥

-- the items of an array
abbrev pub array_in : form.Value-F Value → List Value
array_in (form.Array items) = items
array_in _ = []

-- the items of the array that a cell holds
abbrev pub array_of : Cell → List Value
array_of no_cell = []
array_of invalid_cell = []
array_of running_cell = []
array_of (valid_cell v) = array_in (out-Value v)
array_of (assigned_cell v) = array_in (out-Value v)

-- the pairs of all other readers
abbrev pub without : ℕ → List (ℕ × (ℕ × Facet)) → List (ℕ × (ℕ × Facet))
without c pairs = filter (λ x. not (x.0 == c)) pairs

-- not one of the numbers from a first one on, up to one that is past them
abbrev pub is_outside : ℕ → ℕ → ℕ → Bool
is_outside first past c = not (nat_le first c && nat_lt c past)

-- the pairs of which neither the reader nor the cell that was read is one of these numbers
abbrev pub outside : ℕ → ℕ → List (ℕ × (ℕ × Facet)) → List (ℕ × (ℕ × Facet))
outside first past pairs = filter (λ x. is_outside first past x.0 && is_outside first past x.1.0) pairs

-- the cell is in no pair
abbrev pub InNoPair : ℕ → List (ℕ × (ℕ × Facet)) → Type 0
InNoPair c pairs = (r : ℕ) (x : ℕ × Facet) → In (r, x) pairs → (r ≢ c) × (x.0 ≢ c)

abbrev pub behind_first : List ℕ → List ℕ
behind_first [] = []
behind_first (c ∷ cs) = cs

-- the number of runs stays at 2^64 - 1 once it is there
abbrev pub one_more : ℕ → ℕ
one_more runs = min (runs + 1) 18446744073709551615

-- a cell runs, and what it has read before is forgotten
abbrev pub begun : ℕ → Net → Net
begun c n = record { cells = slice_set n.cells c running_cell; pairs = without c n.pairs; running = c ∷ n.running; runs = n.runs }

-- the run of the innermost cell has ended, which is valid with its value
abbrev pub ended : ℕ → Value → Net → Net
ended c v n = record { cells = slice_set n.cells c (valid_cell v); pairs = n.pairs; running = behind_first n.running; runs = one_more n.runs }

-- the pair comes behind the others
abbrev pub noted : ℕ × (ℕ × Facet) → Net → Net
noted x n = record { cells = n.cells; pairs = n.pairs ++ x ∷ []; running = n.running; runs = n.runs }

-- the innermost of those that run has read this: a pair more, if it isn't there yet; nothing, if none runs
abbrev pub Notes : List ℕ → ℕ × Facet → Net → Net → Type 0
Notes [] x old new = new ≡ old
Notes (c ∷ cs) x old new = (In (c, x) old.pairs × (new ≡ old)) ⊎ ((In (c, x) old.pairs → ⊥) × (new ≡ noted (c, x) old))

-- the facets that change where a value takes the place of another: those that differ, and none where there was no value
abbrev pub Replaces : Option Value → Value → Bool → Facet → Type 0
Replaces None new new_keys f = ⊥
Replaces (Some old) new new_keys f = Differs old new new_keys f

-- what becomes of a cell by a change: one that was valid is invalid exactly where the change reaches it, and any other stays
abbrev pub Fate : Type 0 → Cell → Cell → Type 0
Fate reached no_cell after = after ≡ no_cell
Fate reached invalid_cell after = after ≡ invalid_cell
Fate reached running_cell after = after ≡ running_cell
Fate reached (valid_cell v) after = ((after ≡ valid_cell v) × (reached → ⊥)) ⊎ ((after ≡ invalid_cell) × reached)
Fate reached (assigned_cell v) after = after ≡ assigned_cell v

-- a cell is assigned a value: it has read nothing, and exactly the valid cells that the change of a facet reaches over pairs are invalid
pub record Assigns (old new : Net) (cell : ℕ) (value : Value) (new_keys : Bool) : Type 0 where
  pub own : cell_in new cell ≡ assigned_cell value
  pub others : (c : ℕ) → c ≢ cell → Fate (Reached (without cell old.pairs) (λ x. x.0) (Touches cell (Replaces (value_of (cell_in old cell)) value new_keys)) c) (cell_in old c) (cell_in new c)
  pub count : length new.cells ≡ length old.cells
  pub pairs : new.pairs ≡ without cell old.pairs
  pub running : new.running ≡ old.running
  pub runs : new.runs ≡ old.runs

-- n numbers from a first on, which no cell had, are invalid cells
pub record Adds (old new : Net) (first n : ℕ) : Type 0 where
  pub fresh : (c : ℕ) → first ≤ c → c < first + n → cell_in old c ≡ no_cell
  pub added : (c : ℕ) → first ≤ c → c < first + n → cell_in new c ≡ invalid_cell
  pub others : (c : ℕ) → (c < first) ⊎ (first + n ≤ c) → cell_in new c ≡ cell_in old c
  pub behind : ((c : ℕ) → c < length old.cells → cell_in old c ≢ no_cell) → (first ≡ length old.cells) × (length new.cells ≡ length old.cells + n)
  pub pairs : new.pairs ≡ old.pairs
  pub running : new.running ≡ old.running
  pub runs : new.runs ≡ old.runs

-- no cell has one of the n numbers from a first on any more, and all pairs with them are gone
pub record Removes (old new : Net) (first n : ℕ) : Type 0 where
  pub gone : (c : ℕ) → first ≤ c → c < first + n → cell_in new c ≡ no_cell
  pub others : (c : ℕ) → (c < first) ⊎ (first + n ≤ c) → cell_in new c ≡ cell_in old c
  pub count : length new.cells ≡ length old.cells
  pub pairs : new.pairs ≡ outside first (first + n) old.pairs
  pub running : new.running ≡ old.running
  pub runs : new.runs ≡ old.runs

-- what `Cells` keeps
pub record IsKept (n : Net) : Type 0 where
  -- what a valid or running cell has read is valid or assigned
  pub stands : (r : ℕ) (x : ℕ × Facet) → In (r, x) n.pairs → Reads (cell_in n r) → Stands (cell_in n x.0)
  -- an assigned cell has read nothing
  pub bare : (r : ℕ) (x : ℕ × Facet) (v : Value) → In (r, x) n.pairs → cell_in n r ≢ assigned_cell v
  -- each pair is of cells that are there
  pub live : (r : ℕ) (x : ℕ × Facet) → In (r, x) n.pairs → (cell_in n r ≢ no_cell) × (cell_in n x.0 ≢ no_cell)
  -- no pair is there twice
  pub once : Distinct n.pairs
  -- the running cells are those of the list, each once
  pub distinct : Distinct n.running
  pub runs : (c : ℕ) → In c n.running → cell_in n c ≡ running_cell
  pub listed : (c : ℕ) → cell_in n c ≡ running_cell → In c n.running

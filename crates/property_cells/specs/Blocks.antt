-- Blocks of cells that were taken out and are free to be used again, by their size, and how they are threaded through the cells.
use Rattle.std.specs.Prelude.{◌≡◌, ◌≢◌, ℕ, zero, suc, ◌+◌, ◌<◌, ◌≤◌, List, [], ◌∷◌, length, Option, None, slice_index_or, ◌⊎◌}
use Rattle.dep_list.specs.Pairs.{In}
use Rattle.property_cells.specs.declared.marks.State.{State}
use Rattle.property_cells.specs.declared.marks.State.TheVariants.{Gone}
use Rattle.property_cells.specs.Reach.{Distinct}
use Rattle.property_cells.specs.Runs.{run_list, RunsThrough}

-- what a contract sees: how many cells there may be, and for each size from one on the first cells of the free blocks of that size, the last given back first
pub record Free : Type 0 where
  pub cells : ℕ
  pub blocks : List (List ℕ)

-- the first cells of the free blocks of a size
abbrev pub sized : List (List ℕ) → ℕ → List ℕ
sized blocks zero = []
sized blocks (suc k) = slice_index_or blocks k []

-- the lists that begin at these heads
abbrev pub chains : List (Option ℕ) → List (Option ℕ) → List (List ℕ)
chains [] next = []
chains (head ∷ heads) next = run_list (length next) head next ∷ chains heads next

-- the blocks with one more of a size, the last given back
pub record IsMore (less : List (List ℕ)) (size first : ℕ) (more : List (List ℕ)) : Type 0 where
  pub own : sized more size ≡ first ∷ sized less size
  pub others : (n : ℕ) → n ≢ size → sized more n ≡ sized less n

-- each list ends, and no cell is in two of them
pub record AreChains (heads next : List (Option ℕ)) : Type 0 where
  pub through : (k : ℕ) → RunsThrough next (slice_index_or heads k None) (slice_index_or (chains heads next) k [])
  pub apart : (k j c : ℕ) → In c (slice_index_or (chains heads next) k []) → In c (slice_index_or (chains heads next) j []) → k ≡ j
  pub longer : length next ≤ length heads

-- the cells from one on, so many of them, are in no free block
abbrev pub IsApart : List (List ℕ) → ℕ → ℕ → Type 0
IsApart blocks first n = (c m : ℕ) → In c (sized blocks m) → (c + m ≤ first) ⊎ (first + n ≤ c)

-- no cell of a free block is live, and no two free blocks have a cell in common
pub record AreFree (states : ℕ → State) (cells : ℕ) (blocks : List (List ℕ)) : Type 0 where
  pub gone : (c n k : ℕ) → In c (sized blocks n) → c ≤ k → k < c + n → states k ≡ Gone
  pub inside : (c n : ℕ) → In c (sized blocks n) → c + n ≤ cells
  pub apart : (c n d m : ℕ) → In c (sized blocks n) → In d (sized blocks m) → ((c ≡ d) × (n ≡ m)) ⊎ ((c + n ≤ d) ⊎ (d + m ≤ c))
  pub distinct : (n : ℕ) → Distinct (sized blocks n)

-- The cells that run, the innermost first, threaded through the cells.
use Rattle.std.specs.Prelude.{◌≡◌, ℕ, zero, suc, ◌<◌, List, [], ◌∷◌, length, Option, Some, None, slice_index_or}
use Rattle.dep_list.specs.Pairs.{In}

-- what a contract sees: how many cells there are, and those that run
pub record Running : Type 0 where
  pub cells : ℕ
  pub list : List ℕ

-- so many cells along the thread
abbrev pub run_list : ℕ → Option ℕ → List (Option ℕ) → List ℕ
run_list zero top below = []
run_list (suc n) None below = []
run_list (suc n) (Some c) below = c ∷ run_list n (slice_index_or below c None) below

-- the thread goes through these cells, of which none comes twice
abbrev pub RunsThrough : List (Option ℕ) → Option ℕ → List ℕ → Type 0
RunsThrough below top [] = top ≡ None
RunsThrough below top (c ∷ cs) = (top ≡ Some c) × (c < length below) × (In c cs → ⊥) × RunsThrough below (slice_index_or below c None) cs

-- the count is that of the thread
pub record IsRun (below : List (Option ℕ)) (top : Option ℕ) (count : ℕ) : Type 0 where
  pub through : RunsThrough below top (run_list count top below)
  pub counted : length (run_list count top below) ≡ count

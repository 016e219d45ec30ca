-- What is reached from marked nodes.
use Rattle.std.specs.Prelude.{◌≡◌, ℕ, ◌+◌, ◌<◌, Bool, true, false, ◌↔◌, IsTrue, List, [], ◌∷◌, ◌++◌, length, slice_set}
use Rattle.finite_graphs.specs.Graphs.{Drawn, Leads}
use Rattle.finite_graphs.specs.Walks.{At, In, Reaches}

-- a walk of any length leads to b from a node that is marked
pub record ReachedFrom (E : ℕ → ℕ → Type 0) (marks : List Bool) (b : ℕ) : Type 0 where
  pub start : ℕ
  pub marked : At true marks start
  pub way : Reaches E start b

-- a mark for each node, that it is reached from one that was marked
pub record AreReached (graph : Drawn) (marks reached : List Bool) : Type 0 where
  pub sized : length reached ≡ graph.nodes
  pub each : (b : ℕ) (mark : Bool) → At mark reached b → IsTrue mark ↔ ReachedFrom (Leads graph.edges) marks b

-- what an edge from a marked node leads to: a marked node; or its start waits to be looked at, or is being looked at
pub data Went (now : List Bool) (waiting : List ℕ) (due : ℕ) (left : List ℕ) (a b : ℕ) : Type 0 where
  went_marked : At true now b → Went now waiting due left a b
  went_waits : In a waiting → Went now waiting due left a b
  went_due : a ≡ due → In b left → Went now waiting due left a b

-- how far marks have spread; of the node that is due, these ends of edges are left
pub record IsSpread (E : ℕ → ℕ → Type 0) (marks now : List Bool) (waiting : List ℕ) (due : ℕ) (left : List ℕ) : Type 0 where
  pub sized : length now ≡ length marks
  pub within : (a b : ℕ) → E a b → b < length marks
  pub kept : (a : ℕ) → At true marks a → At true now a
  pub sound : (a : ℕ) → At true now a → ReachedFrom E marks a
  pub waits : (a : ℕ) → In a waiting → At true now a
  pub leads : (b : ℕ) → In b left → E due b
  pub looked : (b : ℕ) → In b left → At true now due
  pub led : (a b : ℕ) → At true now a → E a b → Went now waiting due left a b

-- how many marks are not set
abbrev pub is_unmarked : Bool → ℕ
is_unmarked true = 0
is_unmarked false = 1

abbrev pub unmarked : List Bool → ℕ
unmarked [] = 0
unmarked (x ∷ xs) = is_unmarked x + unmarked xs

-- what waits is what is marked
pub record AreStarts (marks : List Bool) (n : ℕ) (waiting : List ℕ) : Type 0 where
  pub only : (a : ℕ) → In a waiting → At true marks a
  pub all : (a : ℕ) → a < n → At true marks a → In a waiting

-- the mark of a node is set, and the node waits, if it wasn't marked before
pub data SpreadsTo (old : List Bool) (before : List ℕ) (to : ℕ) (new : List Bool) (after : List ℕ) : Type 0 where
  stood : At true old to → new ≡ old → after ≡ before → SpreadsTo old before to new after
  set : At false old to → new ≡ slice_set old to true → after ≡ before ++ to ∷ [] → SpreadsTo old before to new after

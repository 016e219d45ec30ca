-- Things that are numbered, and a relation between them as the edges of a graph of their numbers.
use Rattle.std.specs.Prelude.{◌≡◌, ℕ, ◌<◌, List, length}
use Rattle.finite_graphs.specs.declared.edge.Edge.{Edge}
use Rattle.finite_graphs.specs.Graphs.{Leads}
use Rattle.finite_graphs.specs.Walks.{At, In}

-- each thing has one number, its place in the list, and exactly the numbers of related things are joined by an edge
pub record Numbered {A : Type 0} (R : A → A → Type 0) (things : List A) (edges : List Edge) : Type 0 where
  pub listed : (a b : A) → R a b → In b things
  pub once : (a : A) (i j : ℕ) → At a things i → At a things j → i ≡ j
  pub forth : (a b : A) (i j : ℕ) → At a things i → At b things j → R a b → Leads edges i j
  pub back : (a b : A) (i j : ℕ) → At a things i → At b things j → Leads edges i j → R a b
  pub within : (i j : ℕ) → Leads edges i j → j < length things

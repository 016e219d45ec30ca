-- What contracts see of a graph.
use Rattle.std.specs.Prelude.{ℕ, ◌<◌, List}
use Rattle.finite_graphs.specs.declared.edge.Edge.{Edge}
use Rattle.finite_graphs.specs.Walks.{In}

-- a graph: how many nodes it has, which are numbered from 0, and its edges in the order in which they were added
pub record Drawn : Type 0 where
  pub nodes : ℕ
  pub edges : List Edge

abbrev pub edge : ℕ → ℕ → Edge
edge a b = record { from = a; to = b }

-- one of the edges leads from a to b
pub record Leads (edges : List Edge) (a b : ℕ) : Type 0 where
  pub drawn : In (edge a b) edges

-- both ends of each edge are nodes
pub record EdgesWithin (nodes : ℕ) (edges : List Edge) : Type 0 where
  pub from : (e : Edge) → In e edges → e.from < nodes
  pub to : (e : Edge) → In e edges → e.to < nodes

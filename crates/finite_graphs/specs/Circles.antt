-- Which nodes reach each other, and which nodes and edges lie on circles.
use Rattle.std.specs.Prelude.{◌≡◌, ℕ, Bool, ◌<◌, ◌≤◌, ◌↔◌, IsTrue, List, length}
use Rattle.finite_graphs.specs.declared.edge.Edge.{Edge}
use Rattle.finite_graphs.specs.Graphs.{Drawn, Leads}
use Rattle.finite_graphs.specs.Rows.{Steps}
use Rattle.finite_graphs.specs.Walks.{At, In, OnCircle, Reaches}

-- a label for each node: two nodes have the same label exactly where each reaches the other, and along an edge labels never rise
pub record AreComponents (graph : Drawn) (labels : List ℕ) : Type 0 where
  pub sized : length labels ≡ graph.nodes
  pub same : (a b l : ℕ) → At l labels a → At l labels b → Reaches (Leads graph.edges) a b
  pub apart : (a b l k : ℕ) → At l labels a → At k labels b → Reaches (Leads graph.edges) a b → Reaches (Leads graph.edges) b a → l ≡ k
  pub falls : (a b l k : ℕ) → At l labels a → At k labels b → Leads graph.edges a b → k ≤ l

-- a mark for each node, that it lies on a circle, and one for each edge, that a walk leads from its end to its start
pub record AreCircles (graph : Drawn) (nodes edges : List Bool) : Type 0 where
  pub nodes_sized : length nodes ≡ graph.nodes
  pub edges_sized : length edges ≡ length graph.edges
  pub node_marked : (a : ℕ) (mark : Bool) → At mark nodes a → IsTrue mark ↔ OnCircle (Leads graph.edges) a
  pub edge_marked : (i : ℕ) (mark : Bool) (e : Edge) → At mark edges i → At e graph.edges i → IsTrue mark ↔ Reaches (Leads graph.edges) e.to e.from

-- the same as of components, of a graph by rows
pub record AreLabels (rows : List (List ℕ)) (labels : List ℕ) : Type 0 where
  pub sized : length labels ≡ length rows
  pub same : (a b l : ℕ) → At l labels a → At l labels b → Reaches (Steps rows) a b
  pub falls : (a b l k : ℕ) → At l labels a → At k labels b → Steps rows a b → k ≤ l
  pub small : (a l : ℕ) → At l labels a → l < length rows

-- both ends of an edge have one label
pub record SameLabel (labels : List ℕ) (e : Edge) : Type 0 where
  pub label : ℕ
  pub from : At label labels e.from
  pub to : At label labels e.to

-- one of the edges has one label
pub record SomeSameLabel (labels : List ℕ) (edges : List Edge) : Type 0 where
  pub edge : Edge
  pub among : In edge edges
  pub same : SameLabel labels edge

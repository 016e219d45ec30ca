-- A graph by rows: for each node, the nodes to which its edges lead.
use Rattle.std.specs.Prelude.{◌≡◌, ℕ, ◌<◌, List, length, ◌⊎◌}
use Rattle.finite_graphs.specs.Graphs.{Drawn, Leads}
use Rattle.finite_graphs.specs.Walks.{In, At}

-- b stands in the row of a
pub record Steps (rows : List (List ℕ)) (a b : ℕ) : Type 0 where
  pub row : List ℕ
  pub stands : At row rows a
  pub among : In b row

pub record RowsWithin (rows : List (List ℕ)) : Type 0 where
  pub within : (a b : ℕ) → Steps rows a b → b < length rows

-- the rows have exactly the edges of the graph
pub record AreRows (graph : Drawn) (rows : List (List ℕ)) : Type 0 where
  pub sized : length rows ≡ graph.nodes
  pub forth : (a b : ℕ) → Leads graph.edges a b → Steps rows a b
  pub back : (a b : ℕ) → Steps rows a b → Leads graph.edges a b

-- a number has come into one row
pub record RowGrows (old new : List (List ℕ)) (from to : ℕ) : Type 0 where
  pub sized : length new ≡ length old
  pub kept : (a b : ℕ) → Steps old a b → Steps new a b
  pub added : Steps new from to
  pub only : (a b : ℕ) → Steps new a b → Steps old a b ⊎ ((a ≡ from) × (b ≡ to))

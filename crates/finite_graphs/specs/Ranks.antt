-- The length of the longest walk from each node.
use Rattle.std.specs.Prelude.{◌≡◌, ℕ, ◌+◌, ◌<◌, ◌≤◌, ◌⊎◌, List, length}
use Rattle.finite_graphs.specs.Graphs.{Drawn, Leads}
use Rattle.finite_graphs.specs.Rows.{Steps}
use Rattle.finite_graphs.specs.Walks.{At, In, IsRank, OnCircle}

-- some node lies on a circle
pub record HasCircle (graph : Drawn) : Type 0 where
  pub node : ℕ
  pub circle : OnCircle (Leads graph.edges) node

-- for each node the length of its longest walk, which is greater than those of the nodes to which its edges lead
pub record AreRanks (graph : Drawn) (ranks : List ℕ) : Type 0 where
  pub sized : length ranks ≡ graph.nodes
  pub each : (a n : ℕ) → At n ranks a → IsRank (Leads graph.edges) a n
  pub falls : (a b n m : ℕ) → At n ranks a → At m ranks b → Leads graph.edges a b → m < n

-- no edge has one label
pub record AllFall (rows : List (List ℕ)) (labels : List ℕ) : Type 0 where
  pub falls : (a b l k : ℕ) → At l labels a → At k labels b → Steps rows a b → k < l

-- each label is of one node
pub record AreApart (labels : List ℕ) : Type 0 where
  pub apart : (a b l : ℕ) → At l labels a → At l labels b → a ≡ b

-- the node of each label, for the nodes before n
pub record AreNodes (labels order : List ℕ) (n : ℕ) : Type 0 where
  pub sized : length order ≡ length labels
  pub within : (l a : ℕ) → At a order l → a < length labels
  pub each : (a l : ℕ) → a < n → At l labels a → At a order l

-- a node of a row with the rank before r
pub record TopOf (ranks row : List ℕ) (r : ℕ) : Type 0 where
  pub node : ℕ
  pub among : In node row
  pub rank : ℕ
  pub stands : At rank ranks node
  pub is : r ≡ rank + 1

-- r is above the ranks of a row, and no higher than it must be
pub record IsAbove (ranks row : List ℕ) (r : ℕ) : Type 0 where
  pub above : (b q : ℕ) → In b row → At q ranks b → q < r
  pub least : (r ≡ 0) ⊎ TopOf ranks row r

-- the ranks of the nodes with labels below n
pub record AreRanksBelow (rows : List (List ℕ)) (labels ranks : List ℕ) (n : ℕ) : Type 0 where
  pub sized : length ranks ≡ length rows
  pub small : (a q : ℕ) → At q ranks a → q < length rows
  pub right : (a l r : ℕ) → At l labels a → l < n → At r ranks a → IsRank (Steps rows) a r
  pub low : (a l r : ℕ) → At l labels a → l < n → At r ranks a → r ≤ l

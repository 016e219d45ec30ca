-- Where chains of links end: members by their numbers, each with the number of the member that it follows, if it follows one.
use Rattle.std.specs.Prelude.{ℕ, zero, suc, ◌+◌, if◌then◌else◌, nat_lt, List, [], ◌∷◌, ◌++◌, length, slice_get, Option, Some, None}
use Rattle.finite_graphs.specs.declared.edge.Edge.{Edge}
use Rattle.finite_graphs.specs.Graphs.{edge}

-- one step along a chain; a member that follows none stays
abbrev pub stepped : ℕ → Option (Option ℕ) → ℕ
stepped i None = i
stepped i (Some None) = i
stepped i (Some (Some j)) = j

abbrev pub step : List (Option ℕ) → ℕ → ℕ
step nexts i = stepped i (slice_get nexts i)

abbrev pub after : ℕ → List (Option ℕ) → ℕ → ℕ
after zero nexts i = i
after (suc n) nexts i = after n nexts (step nexts i)

-- a chain without a circle has fewer steps than there are members; this many are enough: the first of k, 2 k, 4 k, .. that isn't below n
abbrev pub enough : ℕ → ℕ → ℕ → ℕ
enough zero n k = k
enough (suc rounds) n k = if nat_lt k n then enough rounds n (k + k) else k

abbrev pub steps_for : ℕ → ℕ
steps_for n = enough n n 1

-- the members at which the chains of n members from the i-th on are after k steps
abbrev pub afters : ℕ → List (Option ℕ) → ℕ → ℕ → List ℕ
afters k nexts i zero = []
afters k nexts i (suc n) = after k nexts i ∷ afters k nexts (suc i) n

-- and at which they end
abbrev pub ends_of : List (Option ℕ) → List ℕ
ends_of nexts = afters (steps_for (length nexts)) nexts 0 (length nexts)

-- the chains as a graph, of so many members
abbrev pub edge_to : ℕ → ℕ → Option ℕ → List Edge
edge_to n i None = []
edge_to n i (Some j) = if nat_lt j n then edge i j ∷ [] else []

abbrev pub edges_from : ℕ → ℕ → List (Option ℕ) → List Edge
edges_from n i [] = []
edges_from n i (next ∷ nexts) = edge_to n i next ++ edges_from n (suc i) nexts

abbrev pub link_edges : List (Option ℕ) → List Edge
link_edges nexts = edges_from (length nexts) 0 nexts

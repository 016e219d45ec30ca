-- The classes of linked members: members that are joined by links, whichever way these lead, and the label of each class.
use Rattle.std.specs.Prelude.{◌≡◌, ℕ, ◌<◌, ◌≤◌, List, [], ◌∷◌, length, slice_get, slice_set, unwrap_or, Option, Some, None}
use Rattle.std.specs.List.{flat_map}
use Rattle.finite_graphs.specs.declared.edge.Edge.{Edge}
use Rattle.finite_graphs.specs.Graphs.{Leads, edge}
use Rattle.finite_graphs.specs.Walks.{At, Reaches}
use Rattle.alias_merge.specs.declared.circle_faults.Spanned.{Spanned}

-- each link both ways
abbrev pub both_ways : Spanned → List Edge
both_ways s = edge s.from s.to ∷ edge s.to s.from ∷ []

abbrev pub joined : List Spanned → List Edge
joined links = flat_map both_ways links

-- the label of each member is the least member of its class
pub record AreLabels (links : List Spanned) (n : ℕ) (labels : List ℕ) : Type 0 where
  pub sized : length labels ≡ n
  pub joined_to : (a l : ℕ) → At l labels a → Reaches (Leads (joined links)) a l
  pub least : (a b l : ℕ) → At l labels a → Reaches (Leads (joined links)) a b → l ≤ b

-- ---- the pass by which labels are found

-- numbers are below a limit
pub record AreBelow (limit : ℕ) (groups : List ℕ) : Type 0 where
  pub below : (g a : ℕ) → At g groups a → g < limit

-- b is the first member of a group
pub record IsFirstOf (groups : List ℕ) (g b : ℕ) : Type 0 where
  pub among : At g groups b
  pub least : (c : ℕ) → At g groups c → b ≤ c

-- there is a first member of a group in a table
pub record HasFirst (firsts : List (Option ℕ)) (g : ℕ) : Type 0 where
  pub member : ℕ
  pub stands : At (Some member) firsts g

-- the first members of groups, so far as these have members below n
pub record AreFirsts (limit : ℕ) (groups : List ℕ) (n : ℕ) (firsts : List (Option ℕ)) : Type 0 where
  pub sized : length firsts ≡ limit
  pub right : (g b : ℕ) → At (Some b) firsts g → IsFirstOf groups g b
  pub each : (g a : ℕ) → a < n → At g groups a → HasFirst firsts g

-- a member is the first of its group, if that has none so far
abbrev pub with_first : List (Option ℕ) → ℕ → ℕ → Option (Option ℕ) → List (Option ℕ)
with_first firsts g member None = firsts
with_first firsts g member (Some None) = slice_set firsts g (Some member)
with_first firsts g member (Some (Some b)) = firsts

-- the first member of a group by a table
abbrev pub first_by : List (Option ℕ) → ℕ → ℕ
first_by firsts g = unwrap_or (unwrap_or (slice_get firsts g) None) 0

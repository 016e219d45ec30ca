-- What is chosen for each class of linked members: of its candidates those of least depth are looked at, and of these one from which no other one
-- is reached over links.
use Rattle.std.specs.Prelude.{◌≡◌, ℕ, Bool, false, ◌==◌, ◌≤◌, ◌||◌, ◌&&◌, if◌then◌else◌, List, [], length, min, nat_le, nat_lt, slice_get, filter, fold, Option, Some, None}
use Rattle.slint_base.specs.declared.faults.Span.{Span}
use Rattle.finite_graphs.specs.declared.edge.Edge.{Edge}
use Rattle.finite_graphs.specs.Graphs.{Leads}
use Rattle.finite_graphs.specs.Walks.{At, In, OnCircle, Reaches}
use Rattle.alias_merge.specs.declared.candidate.Candidate.{Candidate}
use Rattle.alias_merge.specs.declared.homes.Home.{Home}

-- a number that is there is n
abbrev pub number_is : ℕ → Option ℕ → Bool
number_is n None = false
number_is n (Some m) = m == n

-- ---- the candidates of a class

-- a candidate stands in no more repeaters than a class has rows in
abbrev pub stands_within : Candidate → Option (Option Home) → Bool
stands_within c None = false
stands_within c (Some None) = false
stands_within c (Some (Some home)) = nat_le c.repeaters home.repeaters

abbrev pub label_within : List (Option Home) → Candidate → Option ℕ → Option ℕ
label_within homes c None = None
label_within homes c (Some l) = if stands_within c (slice_get homes l) then Some l else None

-- the label of a candidate's class, if the candidate counts there
abbrev pub class_of : List ℕ → List (Option Home) → Candidate → Option ℕ
class_of labels homes c = label_within homes c (slice_get labels c.member)

abbrev pub is_of_class : List ℕ → List (Option Home) → ℕ → Candidate → Bool
is_of_class labels homes l c = number_is l (class_of labels homes c)

abbrev pub of_class : List ℕ → List (Option Home) → ℕ → List Candidate → List Candidate
of_class labels homes l cs = filter (is_of_class labels homes l) cs

-- ---- the least depth

abbrev pub lesser : Option ℕ → Candidate → Option ℕ
lesser None c = Some c.depth
lesser (Some n) c = Some (min n c.depth)

abbrev pub least_depth : List Candidate → Option ℕ
least_depth cs = fold lesser None cs

abbrev pub has_depth : Option ℕ → Candidate → Bool
has_depth depth c = number_is c.depth depth

-- the candidates of least depth
abbrev pub shallowest : List Candidate → List Candidate
shallowest cs = filter (has_depth (least_depth cs)) cs

-- ---- links

-- a walk of at least one edge leads from a to b
pub record Ahead (edges : List Edge) (a b : ℕ) : Type 0 where
  pub next : ℕ
  pub leads : Leads edges a next
  pub way : Reaches (Leads edges) next b

-- from a candidate no other one is reached
pub record IsFree (edges : List Edge) (cs : List Candidate) (c : Candidate) : Type 0 where
  pub none : (d : Candidate) → In d cs → Ahead edges c.member d.member → ⊥

-- the members at both ends of a link are of one class
pub record KeepsLabels (edges : List Edge) (labels : List ℕ) : Type 0 where
  pub along : (a b : ℕ) → Leads edges a b → slice_get labels a ≡ slice_get labels b

-- no link leads back to where it comes from
pub record HasNoCircle (edges : List Edge) : Type 0 where
  pub none : (a : ℕ) → OnCircle (Leads edges) a → ⊥

-- ---- the choice

-- a place in the text stands before another one
abbrev pub is_sooner : Span → Span → Bool
is_sooner a b = nat_lt a.file b.file || ((a.file == b.file) && nat_lt a.start b.start)

-- a free candidate: no free one stands before it in the text, and of those at the same place of the text it comes first in the list
pub record IsChosen (edges : List Edge) (cs : List Candidate) (c : Candidate) : Type 0 where
  pub place : ℕ
  pub stands : At c cs place
  pub free : IsFree edges cs c
  pub soonest : (d : Candidate) → In d cs → IsFree edges cs d → is_sooner d.span c.span ≡ false
  pub earliest : (d : Candidate) (i : ℕ) → At d cs i → IsFree edges cs d → is_sooner c.span d.span ≡ false → place ≤ i

-- what is chosen of the candidates of a class
abbrev pub IsChoice : List Edge → List Candidate → Option Candidate → Type 0
IsChoice edges cs None = cs ≡ []
IsChoice edges cs (Some c) = IsChosen edges (shallowest cs) c

-- the same of each class, by its label
pub record AreChoices (edges : List Edge) (labels : List ℕ) (homes : List (Option Home)) (cs : List Candidate) (chosen : List (Option Candidate)) : Type 0 where
  pub sized : length chosen ≡ length labels
  pub each : (l : ℕ) (c : Option Candidate) → At c chosen l → IsChoice edges (of_class labels homes l cs) c

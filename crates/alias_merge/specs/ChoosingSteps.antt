-- The passes by which choices are made for all classes at once.
use Rattle.std.specs.Prelude.{◌≡◌, ℕ, Bool, true, false, ◌↔◌, IsTrue, if◌then◌else◌, List, length, not, slice_get, slice_set, filter, fold, replicate, unwrap_or, Option, Some, None}
use Rattle.finite_graphs.specs.declared.edge.Edge.{Edge}
use Rattle.finite_graphs.specs.Walks.{At}
use Rattle.alias_merge.specs.declared.candidate.Candidate.{Candidate}
use Rattle.alias_merge.specs.declared.homes.Home.{Home}
use Rattle.alias_merge.specs.Choosing.{Ahead, class_of, has_depth, is_sooner, lesser}

-- what a table has of the class of a thing becomes what f makes of it and the thing
abbrev pub put_at : {A X : Type 0} → (A → X → A) → ℕ → X → List A → Option A → List A
put_at f l x table None = table
put_at f l x table (Some a) = slice_set table l (f a x)

abbrev pub put : {A X : Type 0} → (A → X → A) → Option ℕ → X → List A → List A
put f None x table = table
put f (Some l) x table = put_at f l x table (slice_get table l)

-- the same for each of many things
abbrev pub grouped : {A X : Type 0} → (A → X → A) → (X → Option ℕ) → List A → List X → List A
grouped f class table xs = fold (λ rows x. put f (class x) x rows) table xs

-- the least depth of each class
abbrev pub depths_of : List ℕ → List (Option Home) → List Candidate → List (Option ℕ)
depths_of labels homes cs = grouped lesser (class_of labels homes) (replicate (length labels) None) cs

-- the candidates of least depth of all classes
abbrev pub depth_at : List (Option ℕ) → Option ℕ → Option ℕ
depth_at depths None = None
depth_at depths (Some l) = unwrap_or (slice_get depths l) None

abbrev pub is_shallow : List ℕ → List (Option Home) → List (Option ℕ) → Candidate → Bool
is_shallow labels homes depths c = has_depth (depth_at depths (class_of labels homes c)) c

abbrev pub shallow_of : List ℕ → List (Option Home) → List (Option ℕ) → List Candidate → List Candidate
shallow_of labels homes depths cs = filter (is_shallow labels homes depths) cs

-- of each thing a mark is set, if it has one
abbrev pub with_mark : List Bool → Option ℕ → List Bool
with_mark marks None = marks
with_mark marks (Some n) = slice_set marks n true

abbrev pub with_marks : {X : Type 0} → (X → Option ℕ) → List Bool → List X → List Bool
with_marks mark marks xs = fold (λ now x. with_mark now (mark x)) marks xs

-- the members of candidates are marked
abbrev pub member_of : Candidate → Option ℕ
member_of c = Some c.member

abbrev pub marks_of : ℕ → List Candidate → List Bool
marks_of n cs = with_marks member_of (replicate n false) cs

-- the left side of a link is marked whose right side was
abbrev pub is_marked : List Bool → ℕ → Bool
is_marked marks a = unwrap_or (slice_get marks a) false

abbrev pub start_of : List Bool → Edge → Option ℕ
start_of marks e = if is_marked marks e.to then Some e.from else None

abbrev pub starts_of : ℕ → List Bool → List Edge → List Bool
starts_of n marks edges = with_marks (start_of marks) (replicate n false) edges

-- an edge the other way round
abbrev pub turn : Edge → Edge
turn e = record { from = e.to; to = e.from }

-- from a walk of at least one edge leads to a marked node
pub record LeadsToMarked (edges : List Edge) (marks : List Bool) (a : ℕ) : Type 0 where
  pub end : ℕ
  pub marked : At true marks end
  pub way : Ahead edges a end

-- a mark for each node from which one that was marked is ahead
pub record AreAhead (edges : List Edge) (marks ahead : List Bool) : Type 0 where
  pub sized : length ahead ≡ length marks
  pub each : (a : ℕ) (mark : Bool) → At mark ahead a → IsTrue mark ↔ LeadsToMarked edges marks a

-- the candidates whose members aren't marked
abbrev pub is_unmarked : List Bool → Candidate → Bool
is_unmarked ahead c = not (is_marked ahead c.member)

abbrev pub free_of : List Bool → List Candidate → List Candidate
free_of ahead cs = filter (is_unmarked ahead) cs

-- of two candidates the one that stands before in the text, else the first
abbrev pub sooner : Option Candidate → Candidate → Option Candidate
sooner None c = Some c
sooner (Some b) c = if is_sooner c.span b.span then Some c else Some b

abbrev pub chosen_of : List ℕ → List (Option Home) → List Candidate → List (Option Candidate)
chosen_of labels homes cs = grouped sooner (class_of labels homes) (replicate (length labels) None) cs

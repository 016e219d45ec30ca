-- How far a search has come that contracts its path: nodes on the path that reach each other are one group, and a group from which nothing
-- new leads on is closed with a label of its own.
use Rattle.std.specs.Prelude.{◌≡◌, ℕ, ◌+◌, ◌*◌, ◌^◌, ◌<◌, ◌≤◌, List, [], ◌∷◌, length, Option, Some, ◌⊎◌}
use Rattle.finite_graphs.specs.declared.search.Standing.{Standing}
use Rattle.finite_graphs.specs.declared.search.Standing.TheVariants.{New, Open, Closed}
use Rattle.finite_graphs.specs.declared.search.Group.{Group}
use Rattle.finite_graphs.specs.declared.search.Search.{Search}
use Rattle.finite_graphs.specs.Rows.{Steps}
use Rattle.finite_graphs.specs.Walks.{In, At, Reaches}

-- how many nodes were not met yet
abbrev pub is_unseen : Standing → ℕ
is_unseen New = 1
is_unseen _ = 0

abbrev pub unseen : List Standing → ℕ
unseen [] = 0
unseen (x ∷ xs) = is_unseen x + unseen xs

-- the group of the node at i of the path doesn't stand above that of the node at j
pub record Below (groups : List Group) (i j : ℕ) : Type 0 where
  pub below : (g : Group) → In g groups → g.path_start ≤ i → g.path_start ≤ j

-- the node at i of the path and what waits at t are of one group
pub record Shares (groups : List Group) (i t : ℕ) : Type 0 where
  pub onto : (g : Group) → In g groups → g.path_start ≤ i → g.ahead_start ≤ t
  pub back : (g : Group) → In g groups → g.ahead_start ≤ t → g.path_start ≤ i

-- what an edge from the node at i of the path leads to
pub data Led (places : List Standing) (path ahead : List ℕ) (groups : List Group) (due : Option ℕ) (i b : ℕ) : Type 0 where
  led_closed : (l : ℕ) → At (Closed l) places b → Led places path ahead groups due i b
  led_held : (j : ℕ) → At b path j → Below groups i j → Led places path ahead groups due i b
  led_waiting : (t : ℕ) → At b ahead t → Shares groups i t → Led places path ahead groups due i b
  led_due : due ≡ Some b → Led places path ahead groups due i b

-- a node of the path from which an edge leads to b, which waits at t
pub record Waits (E : ℕ → ℕ → Type 0) (path : List ℕ) (groups : List Group) (b t : ℕ) : Type 0 where
  pub source : ℕ
  pub place : ℕ
  pub stands : At source path place
  pub leads : E source b
  pub shares : Shares groups place t

-- a group begins at i of the path or before
pub record Covered (groups : List Group) (i : ℕ) : Type 0 where
  pub group : Group
  pub among : In group groups
  pub begins : group.path_start ≤ i

-- an edge of a node with label l leads to a closed node with no greater label
pub record ClosedBelow (places : List Standing) (l b : ℕ) : Type 0 where
  pub label : ℕ
  pub stands : At (Closed label) places b
  pub falls : label ≤ l

-- the state of a search; a node that is due has been taken from what waits and not looked at yet
pub record IsSearch (E : ℕ → ℕ → Type 0) (nodes : ℕ) (due : Option ℕ) (places : List Standing) (path ahead : List ℕ) (groups : List Group) (count : ℕ) : Type 0 where
  pub within : (a b : ℕ) → E a b → b < nodes
  pub sized : length places ≡ nodes
  pub path_open : (a i : ℕ) → At a path i → At (Open i) places a
  pub open_path : (a i : ℕ) → At (Open i) places a → At a path i
  pub reach : (a b i j : ℕ) → At a path i → At b path j → Below groups i j → Reaches E a b
  pub led : (a b i : ℕ) → At a path i → E a b → Led places path ahead groups due i b
  pub waits : (b t : ℕ) → At b ahead t → Waits E path groups b t
  pub covered : (a i : ℕ) → At a path i → Covered groups i
  pub path_rises : (g h : Group) (i j : ℕ) → At g groups i → At h groups j → i ≤ j → g.path_start ≤ h.path_start
  pub ahead_rises : (g h : Group) (i j : ℕ) → At g groups i → At h groups j → i ≤ j → g.ahead_start ≤ h.ahead_start
  pub path_within : (g : Group) → In g groups → g.path_start ≤ length path
  pub ahead_within : (g : Group) → In g groups → g.ahead_start ≤ length ahead
  pub closed_led : (a b l : ℕ) → At (Closed l) places a → E a b → ClosedBelow places l b
  pub together : (a b l : ℕ) → At (Closed l) places a → At (Closed l) places b → Reaches E a b
  pub fresh : (a l : ℕ) → At (Closed l) places a → l < count
  pub room : count + (length groups + unseen places) ≤ nodes

abbrev pub Holds : List (List ℕ) → Option ℕ → Search → Type 0
Holds rows due s = IsSearch (Steps rows) (length rows) due s.places s.path s.ahead s.groups s.count

-- each node of the path reaches w
pub record AllReach (E : ℕ → ℕ → Type 0) (path : List ℕ) (w : ℕ) : Type 0 where
  pub each : (a i : ℕ) → At a path i → Reaches E a w

-- later groups begin no earlier on the path
pub record Rises (groups : List Group) : Type 0 where
  pub rises : (g h : Group) (i j : ℕ) → At g groups i → At h groups j → i ≤ j → g.path_start ≤ h.path_start

-- the groups that begin at q or before are left
pub record Merged (old new : List Group) (q : ℕ) : Type 0 where
  pub kept : (g : Group) → In g old → g.path_start ≤ q → In g new
  pub only : (g : Group) → In g new → In g old × (g.path_start ≤ q)
  pub fewer : length new ≤ length old
  pub front : (g : Group) (i : ℕ) → At g new i → At g old i

-- a node of the path from m on
pub record InTail (path : List ℕ) (m a : ℕ) : Type 0 where
  pub place : ℕ
  pub stands : At a path place
  pub from : m ≤ place

-- the nodes of the path from m on are closed with a label
pub record Closes (old new : List Standing) (path : List ℕ) (m label : ℕ) : Type 0 where
  pub sized : length new ≡ length old
  pub closed : (a i : ℕ) → At a path i → m ≤ i → At (Closed label) new a
  pub kept : (a : ℕ) (x : Standing) → At x old a → (InTail path m a → ⊥) → At x new a
  pub only : (a : ℕ) (x : Standing) → At x new a → At x old a ⊎ ((x ≡ Closed label) × InTail path m a)
  pub unseen : unseen new ≡ unseen old

-- g is the last of the groups
pub record IsTop (groups : List Group) (g : Group) : Type 0 where
  pub at : ℕ
  pub counted : length groups ≡ at + 1
  pub stands : At g groups at

-- no node is new that wasn't before
pub record FewerNew (old new : List Standing) : Type 0 where
  pub fewer : (a : ℕ) → At New new a → At New old a

-- what is left to be done, as a number that falls
abbrev pub load : Search → ℕ
load s = unseen s.places * 2 ^ 64 + (length s.ahead + length s.groups)

-- the label of a closed node
abbrev pub label_of : Standing → ℕ
label_of (Closed l) = l
label_of _ = 0

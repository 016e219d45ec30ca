-- The invariant of the lists: each reader's and each point's list has exactly its pairs, in order of linking, and the spare nodes are a stack.
use Rattle.std.specs.Prelude.{◌≡◌, ℕ, ◌+◌, ◌^◌, ◌<◌, ◌≤◌, false, ◌&&◌, ◌==◌, if◌then◌else◌, List, [], ◌∷◌, length, Option, Some, None, IsSome, not, map, filter, slice_set, slice_index_or}
use denote.RawPtr.{Ptr}
use Rattle.dep_list.specs.declared.node.Place.{Place}
use Rattle.dep_list.specs.declared.node.Link.{Link}
use Rattle.dep_list.specs.declared.node.Node.{Node}
use Rattle.dep_list.specs.declared.node.Ends.{Ends}
use Rattle.dep_list.specs.declared.node.Side.{Side}
use Rattle.dep_list.specs.declared.node.Side.TheVariants.{Reader, Point}
use Rattle.dep_list.specs.declared.lists.Lists.{Lists}
use Rattle.dep_list.specs.Cells.{same_ptr, find, places, values, alter, pick, Apart}
use Rattle.dep_list.specs.Pairs.{Pairs}

abbrev pub place : Ptr → Place
place p = record { ptr = p }

-- the end of a node's pair that is on a side
abbrev pub key_of : Side → Node → ℕ
key_of Reader n = n.reader
key_of Point n = n.point

-- the end of a node's pair that is on the other side
abbrev pub other_of : Side → Node → ℕ
other_of Reader n = n.point
other_of Point n = n.reader

-- a node's neighbours on a side
abbrev pub link_of : Side → Node → Link
link_of Reader n = n.by_reader
link_of Point n = n.by_point

-- the node with its neighbours on a side changed
abbrev pub with_link : Side → (Link → Link) → Node → Node
with_link Reader g n = record n { by_reader = g n.by_reader }
with_link Point g n = record n { by_point = g n.by_point }

abbrev pub next_to : Option Place → Link → Link
next_to t l = record l { next = t }

abbrev pub prev_to : Option Place → Link → Link
prev_to t l = record l { prev = t }

-- a spare node above another
abbrev pub spare_node : Option Place → Node
spare_node below = record {
  linked = false;
  reader = 0;
  point = 0;
  by_reader = record { prev = None; next = below };
  by_point = record { prev = None; next = None };
}

-- the pair of a linked node
abbrev pub pair_if : Node → Option (ℕ × ℕ)
pair_if n = if n.linked then Some (n.reader, n.point) else None

-- the other end and the neighbours of a node that is linked for a key on a side
abbrev pub step_if : Side → ℕ → Node → Option (ℕ × Link)
step_if s k n = if n.linked && (key_of s n == k) then Some (other_of s n, link_of s n) else None

-- the node below a spare one
abbrev pub below_if : Node → Option (Option Place)
below_if n = if n.linked then None else Some n.by_reader.next

-- all pairs at their nodes, in order of linking
abbrev pub entries : List (Ptr × Node) → List (Ptr × (ℕ × ℕ))
entries = pick pair_if

-- the nodes of one reader or one point, in order of linking
abbrev pub row : Side → ℕ → List (Ptr × Node) → List (Ptr × (ℕ × Link))
row s k = pick (step_if s k)

-- the spare nodes
abbrev pub frees : List (Ptr × Node) → List (Ptr × Option Place)
frees = pick below_if

abbrev pub first_or : {A : Type 0} → Option Place → List (Ptr × A) → Option Place
first_or z [] = z
first_or z (c ∷ cs) = Some (place c.0)

abbrev pub last_or : {A : Type 0} → Option Place → List (Ptr × A) → Option Place
last_or a [] = a
last_or a (c ∷ cs) = last_or (Some (place c.0)) cs

-- each node leads to the next and back to the one before; a stands before the first, z behind the last
abbrev pub Chain : Option Place → List (Ptr × (ℕ × Link)) → Option Place → Type 0
Chain a [] z = Unit {0}
Chain a (c ∷ cs) z = (c.1.1.prev ≡ a) × (c.1.1.next ≡ first_or z cs) × Chain (Some (place c.0)) cs z

-- a row is a chain between these two ends
pub record IsRow (e : Ends) (r : List (Ptr × (ℕ × Link))) : Type 0 where
  pub first : e.first ≡ first_or None r
  pub last : e.last ≡ last_or None r
  pub chain : Chain None r None

-- each spare node leads to the one before it
abbrev pub Stack : Option Place → List (Ptr × Option Place) → Type 0
Stack a [] = Unit {0}
Stack a (c ∷ cs) = (c.1 ≡ a) × Stack (Some (place c.0)) cs

-- each pair's ends are below these two numbers
abbrev pub AllWithin : ℕ → ℕ → List (Ptr × (ℕ × ℕ)) → Type 0
AllWithin readers points [] = Unit {0}
AllWithin readers points (c ∷ cs) = (c.1.0 < readers) × (c.1.1 < points) × AllWithin readers points cs

-- what the lists are made of
pub record State : Type 0 where
  pub cells : List (Ptr × Node)
  pub readers : List Ends
  pub points : List Ends
  pub top : Option Place
  pub spare : ℕ
  pub count : ℕ

abbrev pub state : Lists → State
state l = record { cells = l.nodes.cells; readers = l.readers.items; points = l.points.items; top = l.top; spare = l.spare; count = l.count }

abbrev pub ends_of : Side → State → List Ends
ends_of Reader s = s.readers
ends_of Point s = s.points

abbrev pub no_ends : Ends
no_ends = record { first = None; last = None }

abbrev pub ends_at : Side → ℕ → State → Ends
ends_at side k s = slice_index_or (ends_of side s) k no_ends

abbrev pub with_ends : Side → ℕ → Ends → State → State
with_ends Reader k e s = record s { readers = slice_set s.readers k e }
with_ends Point k e s = record s { points = slice_set s.points k e }

pub record Held (s : State) : Type 0 where
  pub apart : Apart (places s.cells)
  pub rows : (side : Side) (k : ℕ) → k < length (ends_of side s) → IsRow (ends_at side k s) (row side k s.cells)
  pub within : AllWithin (length s.readers) (length s.points) (entries s.cells)
  pub stack : Stack None (frees s.cells)
  pub top : s.top ≡ last_or None (frees s.cells)
  pub spare : s.spare ≡ length (frees s.cells)
  pub count : s.count ≡ length (entries s.cells)
  pub small : s.spare + s.count < 2 ^ 64

-- ---- what the steps do

-- the value at a place, if any, changed
abbrev pub alter_if : {A : Type 0} → (A → A) → Option Place → List (Ptr × A) → List (Ptr × A)
alter_if g None cs = cs
alter_if g (Some at) cs = alter g at.ptr cs

-- the node at a place, if any, leads on to another, or back
abbrev pub next_set : Side → Option Place → Option Place → State → State
next_set side at to s = record s { cells = alter_if (with_link side (next_to to)) at s.cells }

abbrev pub prev_set : Side → Option Place → Option Place → State → State
prev_set side at to s = record s { cells = alter_if (with_link side (prev_to to)) at s.cells }

-- the first of two options that is there
abbrev pub or_else : {A : Type 0} → Option A → Option A → Option A
or_else None y = y
or_else (Some x) y = Some x

-- the ends of a list behind which a node comes
abbrev pub pushed_ends : Ptr → Ends → Ends
pushed_ends p e = record { first = or_else e.first (Some (place p)); last = Some (place p) }

-- a node comes behind the last of a list
abbrev pub pushed : Side → ℕ → Ptr → State → State
pushed side k p s = with_ends side k (pushed_ends p (ends_at side k s)) (next_set side (ends_at side k s).last (Some (place p)) s)

abbrev pub if_none : {A B : Type 0} → Option A → B → B → B
if_none None x y = x
if_none (Some a) x y = y

-- the ends of a list out of which a node goes
abbrev pub cut_ends : Link → Ends → Ends
cut_ends l e = record { first = if_none l.prev l.next e.first; last = if_none l.next l.prev e.last }

-- the neighbours of a node that goes out of a list lead to each other
abbrev pub cut : Side → ℕ → Link → State → State
cut side k l s = with_ends side k (cut_ends l (ends_at side k s)) (prev_set side l.next l.prev (next_set side l.prev l.next s))

-- ---- what the calls keep

-- as many readers, points and nodes as before
pub record SameRoom (old new : State) : Type 0 where
  pub readers : length new.readers ≡ length old.readers
  pub points : length new.points ≡ length old.points
  pub total : new.spare + new.count ≡ old.spare + old.count

-- the pairs, and the readers and points, are the same
pub record SamePairs (old new : State) : Type 0 where
  pub pairs : entries new.cells ≡ entries old.cells
  pub readers : length new.readers ≡ length old.readers
  pub points : length new.points ≡ length old.points

-- the pairs in order of linking
abbrev pub pairs_of : State → List (ℕ × ℕ)
pairs_of s = values (entries s.cells)

-- the end of a pair that is on a side, and the one on the other
abbrev pub key_end : Side → ℕ × ℕ → ℕ
key_end Reader x = x.0
key_end Point x = x.1

abbrev pub other_end : Side → ℕ × ℕ → ℕ
other_end Reader x = x.1
other_end Point x = x.0

-- the pairs that are of another reader, or another point
abbrev pub drop_key : Side → ℕ → List (ℕ × ℕ) → List (ℕ × ℕ)
drop_key side k pairs = filter (λ x. not (key_end side x == k)) pairs

-- the other ends of the pairs of a reader, or a point
abbrev pub others_of : Side → ℕ → List (ℕ × ℕ) → List ℕ
others_of side k pairs = map (other_end side) (filter (λ x. key_end side x == k) pairs)

-- the other ends of a row's pairs
abbrev pub others : List (Ptr × (ℕ × Link)) → List ℕ
others [] = []
others (c ∷ cs) = c.1.0 ∷ others cs

-- what of a list begins at a place
abbrev pub rest : {A : Type 0} → List (Ptr × A) → Option Place → List (Ptr × A)
rest cs None = []
rest [] (Some q) = []
rest (c ∷ cs) (Some q) = if same_ptr c.0 q.ptr then c ∷ cs else rest cs (Some q)

-- a value stands at the place, if there is one
abbrev pub FoundIf : {A : Type 0} → Option Place → List (Ptr × A) → Type 0
FoundIf None cs = Unit {0}
FoundIf (Some q) cs = IsSome (find cs q.ptr)

-- what a contract sees of the lists
abbrev pub seen : State → Pairs
seen s = record { pairs = pairs_of s; spare = s.spare; readers = length s.readers; points = length s.points }

-- no list and no node yet
abbrev pub no_lists : State
no_lists = record { cells = []; readers = []; points = []; top = None; spare = 0; count = 0 }

-- every pair's reader is at least this number
abbrev pub AllFrom : ℕ → List (ℕ × ℕ) → Type 0
AllFrom k [] = Unit {0}
AllFrom k (x ∷ xs) = (k ≤ x.0) × AllFrom k xs

-- no node is linked, and the spare ones are a stack
pub record IsSpare (s : State) : Type 0 where
  pub apart : Apart (places s.cells)
  pub none : entries s.cells ≡ []
  pub stack : Stack None (frees s.cells)
  pub top : s.top ≡ last_or None (frees s.cells)

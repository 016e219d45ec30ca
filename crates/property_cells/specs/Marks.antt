-- Cells with their states, and those to be made invalid, threaded through the cells.
use Rattle.std.specs.Prelude.{◌≡◌, ◌≢◌, ℕ, ◌<◌, ◌≤◌, ◌⊎◌, List, [], ◌∷◌, length, Option, Some, None, slice_set, slice_index_or, if◌then◌else◌, Bool, true, false}
use Rattle.property_cells.specs.declared.marks.State.{State}
use Rattle.property_cells.specs.declared.marks.State.TheVariants.{Gone, Invalid, Running, Valid, Assigned, Marked}
use Rattle.property_cells.specs.declared.marks.Mark.{Mark}
use Rattle.property_cells.specs.declared.marks.Marks.{Marks}
use Rattle.property_cells.specs.declared.points.Entry.{Entry}
use Rattle.dep_list.specs.Pairs.{In, readers_of}
use Rattle.property_cells.specs.Points.{entry_at}
use Rattle.property_cells.specs.Reach.{IsMarking}

-- what a place past the cells holds
abbrev pub no_mark : Mark
no_mark = record { state = Gone; next = None }

abbrev pub mark_at : List Mark → ℕ → Mark
mark_at ms c = slice_index_or ms c no_mark

abbrev pub state_at : List Mark → ℕ → State
state_at ms c = (mark_at ms c).state

-- the cells with their states, and the first of those to be made invalid
pub record Pending : Type 0 where
  pub cells : List Mark
  pub head : Option ℕ

abbrev pub pending : Marks → Pending
pending m = record { cells = m.cells.items; head = m.head }

abbrev pub is_valid : State → Bool
is_valid Gone = false
is_valid Invalid = false
is_valid Running = false
is_valid Valid = true
is_valid Assigned = false
is_valid Marked = false

-- a state with a value
abbrev pub HasValue : State → Type 0
HasValue s = (s ≡ Valid) ⊎ (s ≡ Assigned)

-- an invalid cell
abbrev pub fresh : Mark
fresh = record { state = Invalid; next = None }

-- a cell with another state, which is none of those to be made invalid
abbrev pub written : ℕ → State → Pending → Pending
written c s m = record { cells = slice_set m.cells c (record { state = s; next = None }); head = m.head }

-- so are the cells from a first one on, up to one that is past them, and the others stay
pub record AreWritten (before after : Pending) (first past : ℕ) (s : State) : Type 0 where
  pub own : (c : ℕ) → first ≤ c → c < past → state_at after.cells c ≡ s
  pub others : (c : ℕ) → (c < first) ⊎ (past ≤ c) → state_at after.cells c ≡ state_at before.cells c
  pub count : length after.cells ≡ length before.cells
  pub head : after.head ≡ before.head

-- a valid cell comes in front of those to be made invalid
abbrev pub marked : ℕ → Pending → Pending
marked c m = if is_valid (state_at m.cells c) then record { cells = slice_set m.cells c (record { state = Marked; next = m.head }); head = Some c } else m

-- so do all of these
abbrev pub all_marked : List ℕ → Pending → Pending
all_marked [] m = m
all_marked (c ∷ cs) m = all_marked cs (marked c m)

-- the first of them is invalid, and no longer one of them
abbrev pub taken : ℕ → Pending → Pending
taken c m = record { cells = slice_set m.cells c (record { state = Invalid; next = None }); head = (mark_at m.cells c).next }

-- the first of those to be made invalid is a cell
abbrev pub HeadInside : Pending → Type 0
HeadInside m = (c : ℕ) → m.head ≡ Some c → c < length m.cells

-- each of these is below a number
abbrev pub AllBelow : ℕ → List ℕ → Type 0
AllBelow n [] = Unit {0}
AllBelow n (c ∷ cs) = (c < n) × AllBelow n cs

-- the readers of a point, then those of the next, come in front of those to be made invalid
abbrev pub points_marked : List (ℕ × ℕ) → List ℕ → Pending → Pending
points_marked pairs [] m = m
points_marked pairs (p ∷ ps) m = points_marked pairs ps (all_marked (readers_of p pairs) m)

-- each pair is of a cell and a point
abbrev pub EachInside : ℕ → ℕ → List (ℕ × ℕ) → Type 0
EachInside cells points [] = Unit {0}
EachInside cells points (x ∷ xs) = (x.0 < cells) × (x.1 < points) × EachInside cells points xs

-- the thread from a cell on goes through these cells
abbrev pub Threads : List Mark → Option ℕ → List ℕ → Type 0
Threads ms h [] = h ≡ None
Threads ms h (c ∷ cs) = (h ≡ Some c) × (c < length ms) × Threads ms (mark_at ms c).next cs

-- the marking of all that is reached from the readers of these points has come this far: first are the states before it
pub record IsUnmaking (pairs : List (ℕ × ℕ)) (es : List Entry) (hits : List ℕ) (first : ℕ → State) (m : Pending) : Type 0 where
  pub list : List ℕ
  pub threads : Threads m.cells m.head list
  pub marking : IsMarking pairs (λ p. (entry_at es p).cell) (λ p. In p hits) first (state_at m.cells) None list
  pub done : (r : ℕ) (p : ℕ) → In (r, p) pairs → In p hits → state_at m.cells r ≢ Valid

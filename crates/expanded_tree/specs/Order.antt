-- The elements of the expanded tree in instance order. A list of tasks is gone through from the front, and each task is replaced by its parts.
use Rattle.std.specs.Prelude.{ℕ, zero, suc, ◌+◌, Bool, true, false, ◌==◌, if◌then◌else◌, List, [], ◌∷◌, ◌++◌, map, insert, length, slice_get, Option, Some, None}
use Rattle.typed_tree.specs.declared.outlines.ElementOutline.{ElementOutline}
use Rattle.typed_tree.specs.declared.outlines.Slot.{Slot}
use Rattle.typed_tree.specs.declared.trees.TypedComponent.{TypedComponent}
use Rattle.typed_tree.specs.Bases.{kind_of}
use Rattle.typed_tree.specs.Elements.{repeated_in}
use Rattle.expanded_tree.specs.declared.bodies.Body.{Body}
use Rattle.expanded_tree.specs.declared.bodies.Place.{Place}
use Rattle.expanded_tree.specs.declared.bodies.Spot.{Spot}
use Rattle.expanded_tree.specs.declared.elements.ExpandedElement.{ExpandedElement}
use Rattle.expanded_tree.specs.declared.tasks.Around.{Around}
use Rattle.expanded_tree.specs.declared.tasks.Task.{Task}
use Rattle.expanded_tree.specs.declared.tasks.Task.TheVariants as task
use Rattle.expanded_tree.specs.Bodies.{spot_of}
use Rattle.expanded_tree.specs.Components.{elements_at, slot_at}
use Rattle.expanded_tree.specs.Places.{innermost, type_at}

-- the elements of a component that are written directly in one of them, by their numbers; they are counted from n
abbrev pub is_inside : ℕ → Option ℕ → Bool
is_inside e None = false
is_inside e (Some p) = p == e

abbrev pub children_from : ℕ → ℕ → List ElementOutline → List ℕ
children_from n e [] = []
children_from n e (x ∷ xs) = if is_inside e x.parent then n ∷ children_from (suc n) e xs else children_from (suc n) e xs

abbrev pub children_if : List ElementOutline → ℕ → Option ElementOutline → List ℕ
children_if elements e None = []
children_if elements e (Some element) = children_from 0 e elements

abbrev pub children_of : List ElementOutline → ℕ → List ℕ
children_of elements e = children_if elements e (slice_get elements e)

-- how many of the children of an element stand before what is placed there, if anything is: at `@children`, and without that at the end of the
-- root element
abbrev pub placed_behind : Option Slot → ℕ → ℕ → Option ℕ
placed_behind None zero count = Some count
placed_behind None (suc e) count = None
placed_behind (Some slot) e count = if slot.element == e then Some slot.before else None

abbrev pub with_placed : Option ℕ → Task → List Task → List Task
with_placed None placed tasks = tasks
with_placed (Some n) placed tasks = insert tasks n placed

-- what is written in an element of a body, with what comes there from outside the body
abbrev pub entering : ℕ → Around → ℕ → Task
entering b around e = task.Enter (spot_of b e) around

abbrev pub with_slot : ℕ → ℕ → Around → Option Slot → List Task → List Task
with_slot b e around slot tasks = with_placed (placed_behind slot e (length tasks)) (task.Placed b around) tasks

abbrev pub inside_body : List TypedComponent → ℕ → ℕ → Around → Option Body → List Task
inside_body comps b e around None = []
inside_body comps b e around (Some body) = with_slot b e around (slot_at comps body.comp) (map (entering b around) (children_of (elements_at comps body.comp) e))

abbrev pub inside : List TypedComponent → List Body → Spot → Around → List Task
inside comps bodies spot around = inside_body comps spot.body spot.element around (slice_get bodies spot.body)

-- what is written at the use of a body's component
abbrev pub inside_use : List TypedComponent → List Body → Around → Option Spot → List Task
inside_use comps bodies around None = []
inside_use comps bodies around (Some spot) = inside comps bodies spot around

abbrev pub placed_in : List TypedComponent → List Body → Around → Option Body → List Task
placed_in comps bodies around None = []
placed_in comps bodies around (Some body) = inside_use comps bodies around body.spot

-- how many repeaters are around an element, its own included
abbrev pub count_of : Bool → ℕ
count_of false = 0
count_of true = 1

abbrev pub repeated_in_body : List TypedComponent → ℕ → Option Body → Bool
repeated_in_body comps e None = false
repeated_in_body comps e (Some body) = repeated_in (slice_get (elements_at comps body.comp) e)

abbrev pub repeated_at : List TypedComponent → List Body → Spot → Bool
repeated_at comps bodies spot = repeated_in_body comps spot.element (slice_get bodies spot.body)

abbrev pub repeaters_at : List TypedComponent → List Body → Spot → Around → ℕ
repeaters_at comps bodies spot around = around.repeaters + count_of (repeated_at comps bodies spot)

-- an element that is entered
abbrev pub entered : List TypedComponent → List Body → List Place → Spot → Around → ExpandedElement
entered comps bodies places spot around = record {
  spot = spot;
  kind = kind_of (type_at comps bodies (innermost bodies places spot));
  parent = around.element;
  repeaters = repeaters_at comps bodies spot around;
}

-- around what is inside it, where it has number n
abbrev pub around_in : List TypedComponent → List Body → Spot → Around → ℕ → Around
around_in comps bodies spot around n = record { element = Some n; repeaters = repeaters_at comps bodies spot around }

-- a task adds an element or none
abbrev pub told : List TypedComponent → List Body → List Place → List ExpandedElement → Task → List ExpandedElement
told comps bodies places elements (task.Enter spot around) = elements ++ entered comps bodies places spot around ∷ []
told comps bodies places elements (task.Placed b around) = elements

-- its parts, where so many elements are there before
abbrev pub parts : List TypedComponent → List Body → List Place → ℕ → Task → List Task
parts comps bodies places n (task.Enter spot around) = inside comps bodies (innermost bodies places spot) (around_in comps bodies spot around n)
parts comps bodies places n (task.Placed b around) = placed_in comps bodies around (slice_get bodies b)

-- the elements that so many tasks add
abbrev pub in_order : ℕ → List TypedComponent → List Body → List Place → List ExpandedElement → List Task → List ExpandedElement
in_order n comps bodies places elements [] = elements
in_order zero comps bodies places elements (t ∷ ts) = elements
in_order (suc n) comps bodies places elements (t ∷ ts) =
    in_order n comps bodies places (told comps bodies places elements t) (parts comps bodies places (length elements) t ++ ts)

-- all elements: the root element is entered first. Each place is entered once at most, and what is written at the use of a body is placed once, so
-- there are no more tasks than places and bodies
abbrev pub at_root : Task
at_root = task.Enter (spot_of 0 0) (record { element = None; repeaters = 0 })

abbrev pub elements_in_order : List TypedComponent → List Body → List Place → List ExpandedElement
elements_in_order comps bodies places = in_order (length places + length bodies) comps bodies places [] (at_root ∷ [])

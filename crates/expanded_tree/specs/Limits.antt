-- The limits of the expanded tree: how many elements it has, and how many repeaters lie in one another.
use Rattle.std.specs.Prelude.{◌≡◌, ℕ, if◌then◌else◌, List, [], ◌∷◌, ◌++◌, nat_lt, slice_get, Option, Some, None, Result, Ok, Err, Contains}
use Rattle.slint_base.specs.declared.faults.Fault.{Fault}
use Rattle.slint_base.specs.declared.endings.End.{End}
use Rattle.slint_base.specs.declared.endings.End.TheVariants as ends
use Rattle.slint_base.specs.declared.rules.Rule.TheVariants as rules
use Rattle.typed_tree.specs.declared.trees.TypedComponent.{TypedComponent}
use Rattle.typed_tree.specs.declared.trees.TypedTree.{TypedTree}
use Rattle.fault_order.specs.Order.{IsFirst, NoFault}
use Rattle.expanded_tree.specs.Repeaters.{repeater_faults}
use Rattle.expanded_tree.specs.Sizes.{most_elements, size}
use Rattle.expanded_tree.specs.Trees.{ExpandedValue, expanded}

-- at the name of a component
abbrev pub at_name : Option TypedComponent → List Fault
at_name None = []
at_name (Some comp) = record { rule = rules.TooManyElements; span = comp.outline.name.span } ∷ []

-- more elements than there may be
abbrev pub count_faults : List TypedComponent → ℕ → List Fault
count_faults comps root = if nat_lt most_elements (size comps root) then at_name (slice_get comps root) else []

abbrev pub size_faults : TypedTree → List Fault
size_faults tree = count_faults tree.comps tree.root ++ repeater_faults tree.comps tree.root

abbrev pub SizeFault : TypedTree → Fault → Type 0
SizeFault tree f = Contains (size_faults tree) f

-- the expanded tree, or the first fault, unless memory ran out
abbrev pub Expands : TypedTree → Result ExpandedValue (End Fault) → Type 0
Expands tree (Ok value) = NoFault (SizeFault tree) × (value ≡ expanded tree)
Expands tree (Err (ends.Fault f)) = IsFirst (SizeFault tree) f
Expands tree (Err ends.Memory) = Unit {0}

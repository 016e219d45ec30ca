-- Repeaters in repeaters.
use Rattle.std.specs.Prelude.{ℕ, zero, suc, ◌+◌, if◌then◌else◌, List, [], ◌∷◌, ◌++◌, length, min, nat_lt}
use Rattle.slint_base.specs.declared.faults.Fault.{Fault}
use Rattle.slint_base.specs.declared.faults.Span.{Span}
use Rattle.slint_base.specs.declared.rules.Rule.TheVariants as rules
use Rattle.typed_tree.specs.declared.outlines.ElementOutline.{ElementOutline}
use Rattle.typed_tree.specs.declared.outlines.ElementType.{ElementType}
use Rattle.typed_tree.specs.declared.outlines.ElementType.TheVariants as element_type
use Rattle.typed_tree.specs.declared.outlines.Repeat.{Repeat}
use Rattle.typed_tree.specs.declared.outlines.Repeat.TheVariants as repeats
use Rattle.typed_tree.specs.declared.trees.TypedComponent.{TypedComponent}
use Rattle.typed_tree.specs.Elements.{repeaters_around}
use Rattle.fault_order.specs.Order.{numbered}
use Rattle.expanded_tree.specs.declared.limits.TheConstants.{MOST_REPEATERS}
use Rattle.expanded_tree.specs.Components.{elements_at}

-- how many repeaters may lie in one another
abbrev pub most_repeaters : ℕ
most_repeaters = MOST_REPEATERS

-- how many repeaters are around an element of a component, its own included, where so many are around the component's use; more than too many
-- are counted as one too many
abbrev pub depth_in : ℕ → List ElementOutline → ℕ → ℕ
depth_in around elements e = min (suc most_repeaters) (around + length (repeaters_around elements e))

-- at the word of a repeater that is one too many
abbrev pub too_deep : Span → Fault
too_deep word = record { rule = rules.RepeaterDepth; span = word }

abbrev pub at_word : ℕ → Span → List Fault
at_word depth word = if nat_lt most_repeaters depth then too_deep word ∷ [] else []

abbrev pub repeat_faults : ℕ → Repeat → List Fault
repeat_faults depth repeats.Once = []
repeat_faults depth (repeats.If word) = at_word depth word
repeat_faults depth (repeats.For item number word) = at_word depth word

-- an element, and what stands for it in the expanded tree, where so many repeaters are around it, its own included
abbrev pub element_faults : (ℕ → ElementType → List Fault) → ℕ → ElementOutline → List Fault
element_faults inner depth element = repeat_faults depth element.repeat ++ inner depth element.ty

abbrev pub numbered_faults : (ℕ → ElementType → List Fault) → ℕ → List ElementOutline → ℕ → ElementOutline → List Fault
numbered_faults inner around elements e element = element_faults inner (depth_in around elements e) element

-- the repeaters that are too many in what stands for an element of a type, looking so many components deep, where so many repeaters are around
abbrev pub depth_faults : ℕ → List TypedComponent → ℕ → ElementType → List Fault
depth_faults n comps around (element_type.BuiltIn kind) = []
depth_faults zero comps around (element_type.Component c) = []
depth_faults (suc n) comps around (element_type.Component c) =
    numbered (numbered_faults (depth_faults n comps) around (elements_at comps c)) 0 (elements_at comps c)

abbrev pub repeater_faults : List TypedComponent → ℕ → List Fault
repeater_faults comps c = depth_faults (length comps) comps 0 (element_type.Component c)

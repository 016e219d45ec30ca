-- The elements of the components of a typed tree.
use Rattle.std.specs.Prelude.{ℕ, zero, suc, List, [], ◌∷◌, ◌++◌, slice_get, Option, Some, None}
use Rattle.typed_tree.specs.declared.outlines.ElementOutline.{ElementOutline}
use Rattle.typed_tree.specs.declared.outlines.ElementType.{ElementType}
use Rattle.typed_tree.specs.declared.outlines.Slot.{Slot}
use Rattle.typed_tree.specs.declared.trees.TypedComponent.{TypedComponent}
use Rattle.typed_tree.specs.Elements.{type_in}

-- the elements of a component, by its number
abbrev pub elements_in : Option TypedComponent → List ElementOutline
elements_in None = []
elements_in (Some comp) = comp.outline.elements

abbrev pub elements_at : List TypedComponent → ℕ → List ElementOutline
elements_at comps c = elements_in (slice_get comps c)

-- the type of a component's root element, which is what it inherits
abbrev pub base_at : List TypedComponent → ℕ → ElementType
base_at comps c = type_in (slice_get (elements_at comps c) 0)

-- the place of `@children` in a component
abbrev pub slot_in : Option TypedComponent → Option Slot
slot_in None = None
slot_in (Some comp) = comp.outline.slot

abbrev pub slot_at : List TypedComponent → ℕ → Option Slot
slot_at comps c = slot_in (slice_get comps c)

-- what each number below n comes to
abbrev pub each_below : {B : Type 0} → (ℕ → B) → ℕ → List B
each_below f zero = []
each_below f (suc n) = each_below f n ++ f n ∷ []

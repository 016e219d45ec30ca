-- Where what is written inside an element lands.
use Rattle.std.specs.Prelude.{ℕ, zero, suc, List, length, slice_get, Option, Some, None}
use Rattle.std.specs.Option.{option_map}
use Rattle.element_tables.specs.declared.elements.ElementKind.{ElementKind}
use Rattle.element_tables.specs.declared.elements.ElementKind.TheVariants as element_kind
use Rattle.typed_tree.specs.declared.outlines.ComponentOutline.{ComponentOutline}
use Rattle.typed_tree.specs.declared.outlines.ElementType.{ElementType}
use Rattle.typed_tree.specs.declared.outlines.ElementType.TheVariants as element_type
use Rattle.typed_tree.specs.declared.outlines.Slot.{Slot}
use Rattle.typed_tree.specs.Elements.{elements_of, parent_of, type_in, type_of}

-- the element of a component that takes what is written inside its instances: the one around `@children`, and without that the root element
abbrev pub slot_element : Option Slot → ℕ
slot_element None = 0
slot_element (Some slot) = slot.element

abbrev pub taking_in : Option ComponentOutline → ℕ
taking_in None = 0
taking_in (Some comp) = slot_element comp.slot

abbrev pub taking_element : List ComponentOutline → ℕ → ℕ
taking_element comps c = taking_in (slice_get comps c)

-- the type of that element, which takes it in turn
abbrev pub taker_of : ComponentOutline → ElementType
taker_of comp = type_in (slice_get comp.elements (slot_element comp.slot))

abbrev pub taker_in : Option ComponentOutline → ElementType
taker_in None = element_type.BuiltIn element_kind.Empty
taker_in (Some comp) = taker_of comp

abbrev pub taker : List ComponentOutline → ℕ → ElementType
taker comps c = taker_in (slice_get comps c)

-- the kind of the built-in element in which what is written inside an element of a type lands, by the takers of components, so many of them far
abbrev pub landing_within : ℕ → (ℕ → ElementType) → ElementType → ElementKind
landing_within n taken_by (element_type.BuiltIn kind) = kind
landing_within zero taken_by (element_type.Component c) = element_kind.Empty
landing_within (suc n) taken_by (element_type.Component c) = landing_within n taken_by (taken_by c)

-- neither bases nor what components contain leads in a circle, so the number of all components is far enough
abbrev pub landing : List ComponentOutline → ElementType → ElementKind
landing comps t = landing_within (length comps) (taker comps) t

-- the kind of the built-in element in which what is written inside an element lands
abbrev pub inside : List ComponentOutline → ℕ → ℕ → ElementKind
inside comps c e = landing comps (type_of comps c e)

-- the kind of the one in which an element lands itself; a root element lands in none
abbrev pub lands_in : List ComponentOutline → ℕ → ℕ → Option ElementKind
lands_in comps c e = option_map (inside comps c) (parent_of (elements_of comps c) e)

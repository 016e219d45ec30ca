-- How large components are.
use Rattle.std.specs.Prelude.{ℕ, zero, suc, List, length, slice_get, sum_by, Option, Some, None}
use Rattle.expanded_tree.specs.declared.limits.TheConstants.{MOST_ELEMENTS}
use Rattle.typed_tree.specs.declared.outlines.ElementType.{ElementType}
use Rattle.typed_tree.specs.declared.outlines.ElementType.TheVariants as element_type
use Rattle.typed_tree.specs.declared.trees.TypedComponent.{TypedComponent}
use Rattle.typed_tree.specs.Elements.{type_in}

-- how many elements the expanded tree may have
abbrev pub most_elements : ℕ
most_elements = MOST_ELEMENTS

-- how many elements stand in the expanded tree for an element of a type, looking so many components deep: one for a built-in element, and those of
-- its component for an instance, whose root element is the instance itself. Deeper than there are components goes only what contains itself, and
-- that has no end
abbrev pub size_in : (ElementType → ℕ) → Option TypedComponent → ℕ
size_in inner None = suc most_elements
size_in inner (Some comp) = sum_by (λ x. inner x.ty) comp.outline.elements

abbrev pub size_within : ℕ → List TypedComponent → ElementType → ℕ
size_within n comps (element_type.BuiltIn kind) = 1
size_within zero comps (element_type.Component c) = suc most_elements
size_within (suc n) comps (element_type.Component c) = size_in (size_within n comps) (slice_get comps c)

abbrev pub size : List TypedComponent → ℕ → ℕ
size comps c = size_within (length comps) comps (element_type.Component c)

-- how many bodies stand in a row for a type: that of its component, and those of the component's bases
abbrev pub height_in : (ElementType → ℕ) → Option TypedComponent → ℕ
height_in inner None = 0
height_in inner (Some comp) = suc (inner (type_in (slice_get comp.outline.elements 0)))

abbrev pub height_within : ℕ → List TypedComponent → ElementType → ℕ
height_within n comps (element_type.BuiltIn kind) = 0
height_within zero comps (element_type.Component c) = 0
height_within (suc n) comps (element_type.Component c) = height_in (height_within n comps) (slice_get comps c)

abbrev pub height : List TypedComponent → ℕ → ℕ
height comps c = height_within (length comps) comps (element_type.Component c)

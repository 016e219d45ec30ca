-- The items of the expanded tree in instance order: those of the globals by their numbers, then those of each element, and of one element those of
-- its innermost layer first.
use Rattle.std.specs.Prelude.{ℕ, List, [], ◌++◌, map, reverse, length, slice_get, Option, Some, None}
use Rattle.std.specs.List.{flat_map}
use Rattle.typed_tree.specs.declared.trees.TypedComponent.{TypedComponent}
use Rattle.typed_tree.specs.declared.trees.TypedElement.{TypedElement}
use Rattle.typed_tree.specs.declared.trees.TypedGlobal.{TypedGlobal}
use Rattle.typed_tree.specs.declared.trees.TypedItem.{TypedItem}
use Rattle.expanded_tree.specs.declared.bodies.Body.{Body}
use Rattle.expanded_tree.specs.declared.bodies.Spot.{Spot}
use Rattle.expanded_tree.specs.declared.elements.ExpandedElement.{ExpandedElement}
use Rattle.expanded_tree.specs.declared.holders.Holder.{Holder}
use Rattle.expanded_tree.specs.declared.holders.Holder.TheVariants as holders
use Rattle.expanded_tree.specs.Components.{each_below}
use Rattle.expanded_tree.specs.Places.{layers}
use Rattle.expanded_tree.specs.Trees.{ExpandedValue}

-- the items that are written in an element of a component
abbrev pub typed_in : Option TypedComponent → List TypedElement
typed_in None = []
typed_in (Some comp) = comp.elements

abbrev pub items_in : Option TypedElement → List TypedItem
items_in None = []
items_in (Some element) = element.items

abbrev pub items_in_body : List TypedComponent → ℕ → Option Body → List TypedItem
items_in_body comps e None = []
items_in_body comps e (Some body) = items_in (slice_get (typed_in (slice_get comps body.comp)) e)

abbrev pub global_items : Option TypedGlobal → List TypedItem
global_items None = []
global_items (Some global) = global.items

-- the items of a global, or of a layer of an element
abbrev pub items_of : ExpandedValue → Holder → List TypedItem
items_of e (holders.Global g) = global_items (slice_get e.tree.globals g)
items_of e (holders.Element spot) = items_in_body e.tree.comps spot.element (slice_get e.bodies spot.body)

-- what holds items, in instance order
abbrev pub of_global : ℕ → Holder
of_global g = holders.Global g

abbrev pub outwards : ExpandedValue → ExpandedElement → List Spot
outwards e element = reverse (layers e.bodies e.places element.spot)

abbrev pub at_spot : Spot → Holder
at_spot spot = holders.Element spot

abbrev pub layers_of : ExpandedValue → ExpandedElement → List Holder
layers_of e element = map at_spot (outwards e element)

abbrev pub holders_in_order : ExpandedValue → List Holder
holders_in_order e = each_below of_global (length e.tree.globals) ++ flat_map (layers_of e) e.elements

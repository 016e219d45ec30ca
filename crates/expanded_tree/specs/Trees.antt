-- The expanded tree.
use Rattle.std.specs.Prelude.{ℕ, suc, List, [], ◌∷◌, length, Some}
use Rattle.typed_tree.specs.declared.trees.TypedComponent.{TypedComponent}
use Rattle.typed_tree.specs.declared.trees.TypedTree.{TypedTree}
use Rattle.expanded_tree.specs.declared.bodies.Body.{Body}
use Rattle.expanded_tree.specs.declared.bodies.Place.{Place}
use Rattle.expanded_tree.specs.declared.elements.ExpandedElement.{ExpandedElement}
use Rattle.expanded_tree.specs.Bodies.{Growth, whole_growth}
use Rattle.expanded_tree.specs.Components.{each_below}
use Rattle.expanded_tree.specs.Order.{elements_in_order}
use Rattle.expanded_tree.specs.Places.{with_owner_within}
use Rattle.expanded_tree.specs.Sizes.{height}

-- what contracts see of an expanded tree: the typed tree of its source, the bodies and places, and the elements in instance order; and of how
-- many components' bodies each component consists, its own and those of its bases
pub record ExpandedValue : Type 0 where
  pub tree : TypedTree
  pub bodies : List Body
  pub places : List Place
  pub elements : List ExpandedElement
  pub heights : List ℕ

-- each place gets the number of the element of which it is a layer; elements are counted from n
abbrev pub with_owners : List Body → ℕ → List ExpandedElement → List Place → List Place
with_owners bodies n [] places = places
with_owners bodies n (x ∷ xs) places = with_owners bodies (suc n) xs (with_owner_within (length bodies) bodies n (Some x.spot) places)

abbrev pub heights_of : List TypedComponent → List ℕ
heights_of comps = each_below (height comps) (length comps)

abbrev pub of_elements : TypedTree → Growth → List ExpandedElement → ExpandedValue
of_elements tree growth elements = record {
  tree = tree;
  bodies = growth.bodies;
  places = with_owners growth.bodies 0 elements growth.places;
  elements = elements;
  heights = heights_of tree.comps;
}

abbrev pub of_growth : TypedTree → Growth → ExpandedValue
of_growth tree growth = of_elements tree growth (elements_in_order tree.comps growth.bodies growth.places)

-- the expanded tree of a source's root component
abbrev pub expanded : TypedTree → ExpandedValue
expanded tree = of_growth tree (whole_growth tree.comps tree.root)

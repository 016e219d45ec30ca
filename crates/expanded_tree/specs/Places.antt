-- Places by their body and element, and the layers of an element: its place where it is used, then the root elements of the bodies inside.
use Rattle.std.specs.Prelude.{ℕ, zero, suc, ◌+◌, List, [], ◌∷◌, length, slice_get, slice_set, Option, Some, None}
use Rattle.element_tables.specs.declared.elements.ElementKind.TheVariants as element_kind
use Rattle.typed_tree.specs.declared.outlines.ElementType.{ElementType}
use Rattle.typed_tree.specs.declared.outlines.ElementType.TheVariants as element_type
use Rattle.typed_tree.specs.declared.trees.TypedComponent.{TypedComponent}
use Rattle.typed_tree.specs.Elements.{type_in}
use Rattle.expanded_tree.specs.declared.bodies.Body.{Body}
use Rattle.expanded_tree.specs.declared.bodies.Place.{Place}
use Rattle.expanded_tree.specs.declared.bodies.Spot.{Spot}
use Rattle.expanded_tree.specs.Bodies.{spot_of}
use Rattle.expanded_tree.specs.Components.{elements_at}

-- the place of a spot
abbrev pub place_in : List Place → ℕ → Option Body → Option Place
place_in places e None = None
place_in places e (Some b) = slice_get places (b.first + e)

abbrev pub place_at : List Body → List Place → Spot → Option Place
place_at bodies places spot = place_in places spot.element (slice_get bodies spot.body)

-- one layer further in: the root element of the body inside
abbrev pub root_spot : Option ℕ → Option Spot
root_spot None = None
root_spot (Some b) = Some (spot_of b 0)

abbrev pub inner_in : Option Place → Option ℕ
inner_in None = None
inner_in (Some place) = place.inner

abbrev pub inwards : List Body → List Place → Spot → Option Spot
inwards bodies places spot = root_spot (inner_in (place_at bodies places spot))

-- a spot and the layers further in, so many at most; each lies in a body of its own
abbrev pub layers_within : ℕ → List Body → List Place → Option Spot → List Spot
layers_within n bodies places None = []
layers_within zero bodies places (Some spot) = []
layers_within (suc n) bodies places (Some spot) = spot ∷ layers_within n bodies places (inwards bodies places spot)

abbrev pub layers : List Body → List Place → Spot → List Spot
layers bodies places spot = layers_within (length bodies) bodies places (Some spot)

-- the last of them
abbrev pub last_or : Spot → List Spot → Spot
last_or x [] = x
last_or x (y ∷ ys) = last_or y ys

abbrev pub innermost : List Body → List Place → Spot → Spot
innermost bodies places spot = last_or spot (layers bodies places spot)

-- the component of a body
abbrev pub comp_in : Option Body → Option ℕ
comp_in None = None
comp_in (Some b) = Some b.comp

-- the type of the element at a spot
abbrev pub type_in_body : List TypedComponent → ℕ → Option Body → ElementType
type_in_body comps e None = element_type.BuiltIn element_kind.Empty
type_in_body comps e (Some b) = type_in (slice_get (elements_at comps b.comp) e)

abbrev pub type_at : List TypedComponent → List Body → Spot → ElementType
type_at comps bodies spot = type_in_body comps spot.element (slice_get bodies spot.body)

-- a layer gets the number of its element
abbrev pub owned : ℕ → Place → Place
owned x place = record place { expanded = x }

abbrev pub with_owner_at : List Place → ℕ → ℕ → Option Place → List Place
with_owner_at places x p None = places
with_owner_at places x p (Some place) = slice_set places p (owned x place)

abbrev pub with_owner_in : List Place → ℕ → ℕ → Option Body → List Place
with_owner_in places x e None = places
with_owner_in places x e (Some b) = with_owner_at places x (b.first + e) (slice_get places (b.first + e))

abbrev pub with_owner : List Body → List Place → ℕ → Spot → List Place
with_owner bodies places x spot = with_owner_in places x spot.element (slice_get bodies spot.body)

-- the same of all layers from a spot inwards
abbrev pub with_owner_within : ℕ → List Body → ℕ → Option Spot → List Place → List Place
with_owner_within n bodies x None places = places
with_owner_within zero bodies x (Some spot) places = places
with_owner_within (suc n) bodies x (Some spot) places = with_owner_within n bodies x (inwards bodies places spot) (with_owner bodies places x spot)

-- The bodies of components, where they are used, and the places in them. Bodies are numbered from 0, the root component's; behind each body
-- stand those of its bases, in a row, and behind them the bodies that are met later: those inside body 0 in the order of the text, then those
-- inside body 1, and so on.
use Rattle.std.specs.Prelude.{ℕ, zero, suc, ◌+◌, ◌-◌, List, [], ◌∷◌, ◌++◌, length, slice_get, Option, Some, None}
use Rattle.typed_tree.specs.declared.outlines.ElementOutline.{ElementOutline}
use Rattle.typed_tree.specs.declared.outlines.ElementType.{ElementType}
use Rattle.typed_tree.specs.declared.outlines.ElementType.TheVariants as element_type
use Rattle.typed_tree.specs.declared.trees.TypedComponent.{TypedComponent}
use Rattle.expanded_tree.specs.declared.bodies.Body.{Body}
use Rattle.expanded_tree.specs.declared.bodies.Place.{Place}
use Rattle.expanded_tree.specs.declared.bodies.Spot.{Spot}
use Rattle.expanded_tree.specs.Components.{base_at, elements_at}

abbrev pub spot_of : ℕ → ℕ → Spot
spot_of b e = record { body = b; element = e }

-- where the places of the next body begin: behind those of the last one
abbrev pub behind_body : List TypedComponent → Option Body → ℕ
behind_body comps None = 0
behind_body comps (Some b) = b.first + length (elements_at comps b.comp)

abbrev pub next_place : List TypedComponent → List Body → ℕ
next_place comps bodies = behind_body comps (slice_get bodies (length bodies - 1))

-- one more body
abbrev pub with_body : List TypedComponent → Option Spot → ℕ → ℕ → List Body → List Body
with_body comps spot depth c bodies = bodies ++ record { comp = c; spot = spot; first = next_place comps bodies; depth = depth } ∷ []

-- the body of a component that is used at a spot, and behind it those of its bases, each of which is used at the root element of the one before;
-- bases lead in no circle, so as many steps as there are components are enough
abbrev pub with_lineage : ℕ → List TypedComponent → Option Spot → ℕ → ElementType → List Body → List Body
with_lineage n comps spot depth (element_type.BuiltIn kind) bodies = bodies
with_lineage zero comps spot depth (element_type.Component c) bodies = bodies
with_lineage (suc n) comps spot depth (element_type.Component c) bodies =
    with_lineage n comps (Some (spot_of (length bodies) 0)) (suc depth) (base_at comps c) (with_body comps spot depth c bodies)

-- bodies, and the places of those of them that were looked at
pub record Growth : Type 0 where
  pub bodies : List Body
  pub places : List Place

abbrev pub growth_of : List Body → List Place → Growth
growth_of bodies places = record { bodies = bodies; places = places }

-- the number of the body inside an element of a type
abbrev pub inner_of : ℕ → ElementType → Option ℕ
inner_of n (element_type.BuiltIn kind) = None
inner_of n (element_type.Component c) = Some n

-- a place as long as it isn't known of which element it is a layer
abbrev pub place_with : ℕ → ℕ → Option ℕ → Place
place_with b e inner = record { body = b; element = e; inner = inner; expanded = 0 }

-- the place of a body's element. The body in a root element stands right behind; other ones come to the end, with their bases
abbrev pub with_element : List TypedComponent → ℕ → ℕ → Growth → ℕ → ElementType → Growth
with_element comps b depth growth zero ty = growth_of growth.bodies (growth.places ++ place_with b 0 (inner_of (suc b) ty) ∷ [])
with_element comps b depth growth (suc e) ty = growth_of
    (with_lineage (length comps) comps (Some (spot_of b (suc e))) (suc depth) ty growth.bodies)
    (growth.places ++ place_with b (suc e) (inner_of (length growth.bodies) ty) ∷ [])

-- the places of a body's elements, which are counted from e
abbrev pub with_elements : List TypedComponent → ℕ → ℕ → Growth → ℕ → List ElementOutline → Growth
with_elements comps b depth growth e [] = growth
with_elements comps b depth growth e (x ∷ xs) = with_elements comps b depth (with_element comps b depth growth e x.ty) (suc e) xs

-- what a body adds
abbrev pub with_inside : List TypedComponent → Growth → ℕ → Option Body → Growth
with_inside comps growth b None = growth
with_inside comps growth b (Some body) = with_elements comps b body.depth growth 0 (elements_at comps body.comp)

-- what so many bodies add, from a body on
abbrev pub grown : ℕ → List TypedComponent → ℕ → Growth → Growth
grown zero comps b growth = growth
grown (suc n) comps b growth = grown n comps (suc b) (with_inside comps growth b (slice_get growth.bodies b))

-- what the bodies add that aren't looked at yet, those from b on; then those that came by that; and so on, so many times
abbrev pub deepened : ℕ → List TypedComponent → ℕ → Growth → Growth
deepened zero comps b growth = growth
deepened (suc n) comps b growth = deepened n comps (length growth.bodies) (grown (length growth.bodies - b) comps b growth)

-- all bodies and places; no component contains itself, so none lies in more components than there are
abbrev pub whole_growth : List TypedComponent → ℕ → Growth
whole_growth comps root = deepened (length comps) comps 0
    (growth_of (with_lineage (length comps) comps None 0 (element_type.Component root) []) [])

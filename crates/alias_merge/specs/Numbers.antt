-- The numbers of the members of an expanded tree: those of the globals in their order, then those declared in each body, then those that are built
-- into each element.
use Rattle.std.specs.Prelude.{ℕ, ◌+◌, ◌-◌, List, [], ◌∷◌, ◌++◌, length, map, nat_lt, slice_get, sum, if◌then◌else◌, Option, Some, None}
use Rattle.element_tables.specs.Members.{kinds}
use Rattle.typed_tree.specs.declared.trees.TypedComponent.{TypedComponent}
use Rattle.typed_tree.specs.declared.trees.TypedGlobal.{TypedGlobal}
use Rattle.expanded_tree.specs.declared.bodies.Body.{Body}
use Rattle.expanded_tree.specs.declared.elements.ExpandedElement.{ExpandedElement}
use Rattle.expanded_tree.specs.declared.members.ExpandedMember.{ExpandedMember}
use Rattle.expanded_tree.specs.declared.members.ExpandedMember.TheVariants as members
use Rattle.expanded_tree.specs.Trees.{ExpandedValue}
use Rattle.alias_merge.specs.declared.numbers.Block.{Block}
use Rattle.alias_merge.specs.declared.numbers.MemberNumbers.{MemberNumbers}

-- how many members are declared in a component
abbrev pub declared_in : Option TypedComponent → ℕ
declared_in None = 0
declared_in (Some comp) = length comp.outline.members

-- how many members a global, a body and an element have
abbrev pub global_size : TypedGlobal → ℕ
global_size global = length global.outline.members

abbrev pub body_size : List TypedComponent → Body → ℕ
body_size comps body = declared_in (slice_get comps body.comp)

abbrev pub element_size : ExpandedElement → ℕ
element_size element = length (kinds element.kind)

abbrev pub sizes : ExpandedValue → List ℕ
sizes e = (map global_size e.tree.globals ++ map (body_size e.tree.comps) e.bodies) ++ map element_size e.elements

-- the members of each of them are numbered behind those of the ones before
abbrev pub blocks_from : ℕ → List ℕ → List Block
blocks_from first [] = []
blocks_from first (n ∷ ns) = record { first = first; past = first + n } ∷ blocks_from (first + n) ns

-- how many members there are
abbrev pub count : ExpandedValue → ℕ
count e = sum (sizes e)

abbrev pub numbers_of : ExpandedValue → MemberNumbers
numbers_of e = record {
  bodies_from = length e.tree.globals;
  elements_from = length e.tree.globals + length e.bodies;
  count = count e;
  blocks = blocks_from 0 (sizes e);
}

-- a member's number
abbrev pub number_within : ℕ → Option Block → Option ℕ
number_within n None = None
number_within n (Some b) = if nat_lt n (b.past - b.first) then Some (b.first + n) else None

abbrev pub number_in : MemberNumbers → ExpandedMember → Option ℕ
number_in numbers (members.Global g n) = if nat_lt g numbers.bodies_from then number_within n (slice_get numbers.blocks g) else None
number_in numbers (members.Declared b n) =
    if nat_lt b (numbers.elements_from - numbers.bodies_from) then number_within n (slice_get numbers.blocks (numbers.bodies_from + b)) else None
number_in numbers (members.BuiltIn x n) = number_within n (slice_get numbers.blocks (numbers.elements_from + x))

abbrev pub number_of : ExpandedValue → ExpandedMember → Option ℕ
number_of e m = number_in (numbers_of e) m

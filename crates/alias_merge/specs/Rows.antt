-- The members of an expanded tree by their numbers, and where they stand.
use Rattle.std.specs.Prelude.{ℕ, Bool, true, false, not, ◌||◌, ◌&&◌, List, [], ◌∷◌, ◌++◌, length, nat_lt, slice_get, Option, Some, None}
use Rattle.element_tables.specs.Members.{kinds}
use Rattle.typed_tree.specs.declared.members.Member.{Member}
use Rattle.typed_tree.specs.declared.outlines.ElementType.{ElementType}
use Rattle.typed_tree.specs.declared.outlines.ElementType.TheVariants as element_type
use Rattle.typed_tree.specs.declared.trees.TypedComponent.{TypedComponent}
use Rattle.typed_tree.specs.declared.trees.TypedGlobal.{TypedGlobal}
use Rattle.expanded_tree.specs.declared.bodies.Body.{Body}
use Rattle.expanded_tree.specs.declared.elements.ExpandedElement.{ExpandedElement}
use Rattle.expanded_tree.specs.declared.members.ExpandedMember.TheVariants as members
use Rattle.expanded_tree.specs.Bodies.{spot_of}
use Rattle.expanded_tree.specs.Components.{each_below}
use Rattle.expanded_tree.specs.Members.{element_at, height_at}
use Rattle.expanded_tree.specs.Places.{type_at}
use Rattle.expanded_tree.specs.Trees.{ExpandedValue}
use Rattle.alias_merge.specs.declared.rows.InstanceKey.{InstanceKey}
use Rattle.alias_merge.specs.declared.rows.MemberRow.{MemberRow}
use Rattle.alias_merge.specs.Candidates.{numbered_all, repeaters_in}

-- ---- instance order: members of globals come first, then those of each element, and of one element those of inner layers

-- nothing stands before a number
abbrev pub is_less : Option ℕ → Option ℕ → Bool
is_less None None = false
is_less None (Some b) = true
is_less (Some a) None = false
is_less (Some a) (Some b) = nat_lt a b

abbrev pub is_less_within : InstanceKey → InstanceKey → Bool
is_less_within a b = is_less a.layer b.layer || (not (is_less b.layer a.layer) && nat_lt a.number b.number)

abbrev pub is_before : InstanceKey → InstanceKey → Bool
is_before a b = is_less a.element b.element || (not (is_less b.element a.element) && is_less_within a b)

-- ---- the rows

abbrev pub global_row : ℕ → ℕ → MemberRow
global_row g n = record { member = members.Global g n; element = None; repeaters = 0; key = record { element = None; layer = Some g; number = n } }

abbrev pub rows_of_global : ℕ → TypedGlobal → List MemberRow
rows_of_global g global = each_below (global_row g) (length global.outline.members)

-- how many bodies stand in a row for a type
abbrev pub height_of : List ℕ → ElementType → ℕ
height_of heights (element_type.BuiltIn kind) = 0
height_of heights (element_type.Component c) = height_at heights c

-- a declared member is one of the element in whose body it is declared; the layers of that element are told apart by what they still have inside
abbrev pub declared_at : ExpandedValue → ℕ → ℕ → ℕ → ℕ → MemberRow
declared_at e b n place x = record {
  member = members.Declared b n;
  element = Some x;
  repeaters = repeaters_in (slice_get e.elements x);
  key = record { element = Some x; layer = Some (height_of e.heights (type_at e.tree.comps e.bodies (spot_of b place))); number = n };
}

abbrev pub declared_row : ExpandedValue → ℕ → ℕ → Member → MemberRow
declared_row e b n m = declared_at e b n m.element (element_at e b m.element)

abbrev pub members_in : Option TypedComponent → List Member
members_in None = []
members_in (Some comp) = comp.outline.members

abbrev pub declared_rows : ExpandedValue → ℕ → List Member → List MemberRow
declared_rows e b ms = numbered_all (λ n m. declared_row e b n m ∷ []) 0 ms

abbrev pub rows_of_body : ExpandedValue → ℕ → Body → List MemberRow
rows_of_body e b body = declared_rows e b (members_in (slice_get e.tree.comps body.comp))

abbrev pub built_in_row : ℕ → ℕ → ℕ → MemberRow
built_in_row x repeaters n = record { member = members.BuiltIn x n; element = Some x; repeaters = repeaters; key = record { element = Some x; layer = None; number = n } }

abbrev pub rows_of_element : ℕ → ExpandedElement → List MemberRow
rows_of_element x element = each_below (built_in_row x element.repeaters) (length (kinds element.kind))

-- the members by their numbers
abbrev pub global_rows : ExpandedValue → List MemberRow
global_rows e = numbered_all rows_of_global 0 e.tree.globals

abbrev pub body_rows : ExpandedValue → List MemberRow
body_rows e = numbered_all (rows_of_body e) 0 e.bodies

abbrev pub element_rows : ExpandedValue → List MemberRow
element_rows e = numbered_all rows_of_element 0 e.elements

abbrev pub member_rows : ExpandedValue → List MemberRow
member_rows e = (global_rows e ++ body_rows e) ++ element_rows e

-- The members of the expanded tree.
use Rattle.std.specs.Prelude.{ℕ, ◌+◌, ◌-◌, ◌==◌, if◌then◌else◌, List, length, nat_lt, slice_get, Option, Some, None, unwrap_or}
use Rattle.typed_tree.specs.declared.members.ElementMember.{ElementMember}
use Rattle.typed_tree.specs.declared.members.ElementMember.TheVariants as element_member
use Rattle.typed_tree.specs.declared.members.MemberRef.{MemberRef}
use Rattle.typed_tree.specs.declared.members.MemberRef.TheVariants as member_ref
use Rattle.expanded_tree.specs.declared.bodies.Body.{Body}
use Rattle.expanded_tree.specs.declared.bodies.Place.{Place}
use Rattle.expanded_tree.specs.declared.members.ExpandedMember.{ExpandedMember}
use Rattle.expanded_tree.specs.declared.members.ExpandedMember.TheVariants as members
use Rattle.expanded_tree.specs.Bodies.{spot_of}
use Rattle.expanded_tree.specs.Places.{inner_in, place_at}
use Rattle.expanded_tree.specs.Trees.{ExpandedValue}

-- the element of which an element of a body is a layer
abbrev pub expanded_in : Option Place → ℕ
expanded_in None = 0
expanded_in (Some place) = place.expanded

abbrev pub element_at : ExpandedValue → ℕ → ℕ → ℕ
element_at e body element = expanded_in (place_at e.bodies e.places (spot_of body element))

-- the body of a component among a body and those of its bases, which stand in a row: it is as far behind as it lies further in
abbrev pub height_at : List ℕ → ℕ → ℕ
height_at heights c = unwrap_or (slice_get heights c) 0

abbrev pub levels_between : List ℕ → ℕ → Option Body → ℕ
levels_between heights c None = 0
levels_between heights c (Some body) = height_at heights body.comp - height_at heights c

abbrev pub body_behind : List Body → ℕ → ℕ → ℕ
body_behind bodies b n = if nat_lt n (length bodies - b) then b + n else b

abbrev pub among_bases : ExpandedValue → ℕ → ℕ → ℕ
among_bases e c b = body_behind e.bodies b (levels_between e.heights c (slice_get e.bodies b))

-- the body in which a member is declared that an element of a body has: an element's own, or one of its type
abbrev pub declared_inside : ExpandedValue → ℕ → ℕ → Option ℕ → ℕ
declared_inside e c b None = b
declared_inside e c b (Some inner) = among_bases e c inner

abbrev pub declared_in : ExpandedValue → ℕ → ℕ → ℕ → Option Body → ℕ
declared_in e c b element None = b
declared_in e c b element (Some body) = if body.comp == c then b else declared_inside e c b (inner_in (place_at e.bodies e.places (spot_of b element)))

abbrev pub declaring_body : ExpandedValue → ℕ → ℕ → ℕ → ℕ
declaring_body e b element c = declared_in e c b element (slice_get e.bodies b)

-- a member as a body names it
abbrev pub of_element : ExpandedValue → ℕ → ℕ → ElementMember → ExpandedMember
of_element e b element (element_member.BuiltIn n) = members.BuiltIn (element_at e b element) n
of_element e b element (element_member.Declared c n) = members.Declared (declaring_body e b element c) n

abbrev pub member_at : ExpandedValue → ℕ → MemberRef → ExpandedMember
member_at e b (member_ref.Element element member) = of_element e b element member
member_at e b (member_ref.Global g n) = members.Global g n

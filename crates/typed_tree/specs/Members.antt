-- The members of elements and of globals, and who may use them.
use Rattle.std.specs.Prelude.{ℕ, suc, Bool, true, false, ◌&&◌, ◌||◌, not, ◌==◌, if◌then◌else◌, List, [], ◌∷◌, slice_get, Option, Some, None}
use Rattle.std.specs.Option.{option_map, option_or}
use Rattle.std.specs.Str.{bytes_eq}
use Rattle.syntax_tree.specs.declared.items.Access.{Access}
use Rattle.syntax_tree.specs.declared.items.Access.TheVariants as access
use Rattle.syntax_tree.specs.declared.items.Mark.{Mark}
use Rattle.syntax_tree.specs.declared.items.Mark.TheVariants as marks
use Rattle.element_tables.specs.declared.elements.ElementKind.{ElementKind}
use Rattle.element_tables.specs.declared.members.Mark.{Mark as BuiltInMark}
use Rattle.element_tables.specs.declared.members.Mark.TheVariants as built_in_marks
use Rattle.element_tables.specs.declared.members.Member.{Member as BuiltInMember}
use Rattle.element_tables.specs.declared.members.MemberKind.{MemberKind as BuiltInKind}
use Rattle.element_tables.specs.declared.members.MemberKind.TheVariants as built_in_kinds
use Rattle.element_tables.specs.declared.members.Signature.{Signature as BuiltInSignature}
use Rattle.element_tables.specs.declared.types.BuiltInType.{BuiltInType}
use Rattle.element_tables.specs.Members.{members, row_numbered}
use Rattle.element_tables.specs.Rows.{named}
use Rattle.value_types.specs.declared.types.Ty.{Ty}
use Rattle.value_types.specs.declared.types.Ty.TheVariants as ty
use Rattle.typed_tree.specs.declared.members.Found.{Found}
use Rattle.typed_tree.specs.declared.members.Owner.{Owner}
use Rattle.typed_tree.specs.declared.members.Owner.TheVariants as owners
use Rattle.typed_tree.specs.declared.members.ElementMember.{ElementMember}
use Rattle.typed_tree.specs.declared.members.ElementMember.TheVariants as element_member
use Rattle.typed_tree.specs.declared.members.Member.{Member}
use Rattle.typed_tree.specs.declared.members.MemberKind.{MemberKind}
use Rattle.typed_tree.specs.declared.members.MemberKind.TheVariants as kinds
use Rattle.typed_tree.specs.declared.members.MemberRef.{MemberRef}
use Rattle.typed_tree.specs.declared.members.MemberRef.TheVariants as member_ref
use Rattle.typed_tree.specs.declared.members.Signature.{Signature}
use Rattle.typed_tree.specs.declared.outlines.ComponentOutline.{ComponentOutline}
use Rattle.typed_tree.specs.declared.outlines.GlobalOutline.{GlobalOutline}
use Rattle.typed_tree.specs.declared.outlines.Outline.{Outline}
use Rattle.typed_tree.specs.declared.scopes.Site.{Site}
use Rattle.typed_tree.specs.declared.scopes.Site.TheVariants as site
use Rattle.typed_tree.specs.BuiltIns.{built_in_ty}
use Rattle.typed_tree.specs.Elements.{type_of, Lineage, lineage, is_among}

-- a built-in member as one that is declared: it is `in` or `out`, functions are `public`, and neither callbacks nor functions are `pure`
abbrev pub mark_of : BuiltInMark → Mark
mark_of built_in_marks.In = marks.In
mark_of built_in_marks.Out = marks.Out

abbrev pub parameters_of : Option BuiltInType → List Ty
parameters_of None = []
parameters_of (Some t) = built_in_ty t ∷ []

abbrev pub result_of : Option BuiltInType → Ty
result_of None = ty.Void
result_of (Some t) = built_in_ty t

abbrev pub signature_of : BuiltInSignature → Signature
signature_of s = record { parameters = parameters_of s.parameter; result = result_of s.result }

abbrev pub kind_of : BuiltInKind → MemberKind
kind_of (built_in_kinds.Property t mark default) = kinds.Property (mark_of mark) (built_in_ty t)
kind_of (built_in_kinds.Callback s) = kinds.Callback false (signature_of s)
kind_of (built_in_kinds.Function s) = kinds.Function false access.Public (signature_of s)

-- the member of a name that is built into an element's kind
abbrev pub built_in_found : ℕ → BuiltInMember → Found
built_in_found e m = record { member = member_ref.Element e (element_member.BuiltIn m.number); kind = kind_of m.kind; owner = owners.Nobody }

abbrev pub built_in_of : ℕ → ElementKind → List ℕ → Option Found
built_in_of e kind name = option_map (built_in_found e) (named name (members kind))

-- the member of a name that a component declares in the body of one of its elements; as a member of an element e, which may be an instance.
-- Members are counted from n
abbrev pub declared_among : ℕ → ℕ → ℕ → List ℕ → ℕ → List Member → Option Found
declared_among e c inside name n [] = None
declared_among e c inside name n (m ∷ ms) = option_or
    (if (m.element == inside) && bytes_eq m.name.name name
    then Some (record { member = member_ref.Element e (element_member.Declared c n); kind = m.kind; owner = owners.Component c })
    else None)
    (declared_among e c inside name (suc n) ms)

abbrev pub members_in : Option ComponentOutline → List Member
members_in None = []
members_in (Some comp) = comp.members

abbrev pub declared_by : List ComponentOutline → ℕ → ℕ → ℕ → List ℕ → Option Found
declared_by comps e c inside name = declared_among e c inside name 0 (members_in (slice_get comps c))

-- a member that the components of a lineage declare in their root elements
abbrev pub inherited : List ComponentOutline → ℕ → List ℕ → List ℕ → Option Found
inherited comps e name [] = None
inherited comps e name (c ∷ cs) = option_or (declared_by comps e c 0 name) (inherited comps e name cs)

-- a member that an element has from its type
abbrev pub given_by : List ComponentOutline → ℕ → List ℕ → Lineage → Option Found
given_by comps e name line = option_or (inherited comps e name line.comps) (built_in_of e line.kind name)

-- the member of an element that has a name, if there is one: declared in its body, or in the root element of a component that it is built on, or built in
abbrev pub element_member_named : List ComponentOutline → ℕ → ℕ → List ℕ → Option Found
element_member_named comps c e name = option_or (declared_by comps e c e name) (given_by comps e name (lineage comps (type_of comps c e)))

-- the member of a global that has a name
abbrev pub global_among : ℕ → List ℕ → ℕ → List Member → Option Found
global_among g name n [] = None
global_among g name n (m ∷ ms) = option_or
    (if bytes_eq m.name.name name then Some (record { member = member_ref.Global g n; kind = m.kind; owner = owners.Global g }) else None)
    (global_among g name (suc n) ms)

abbrev pub global_members_in : Option GlobalOutline → List Member
global_members_in None = []
global_members_in (Some g) = g.members

abbrev pub global_member_named : List GlobalOutline → ℕ → List ℕ → Option Found
global_member_named globals g name = global_among g name 0 (global_members_in (slice_get globals g))

-- a body belongs to the owner of a member where it is the owner's
abbrev pub is_inside : Site → Owner → Bool
is_inside (site.Element c e) (owners.Component d) = c == d
is_inside (site.Global g) (owners.Global h) = g == h
is_inside _ _ = false

-- a body of a component that inherits the owner
abbrev pub inherits : List ComponentOutline → Site → Owner → Bool
inherits comps (site.Element c e) (owners.Component d) = is_among (lineage comps (type_of comps c 0)).comps d
inherits comps _ _ = false

-- a property may be read, by its owner's body and by others
abbrev pub readable : Bool → Mark → Bool
readable inside marks.None = inside
readable inside marks.Private = inside
readable inside _ = true

-- a property may be bound, or linked as a left side
abbrev pub bindable : Bool → Mark → Bool
bindable inside marks.In = true
bindable inside marks.InOut = true
bindable inside _ = inside

-- a property may be assigned
abbrev pub assignable : Bool → Mark → Bool
assignable inside marks.In = not inside
assignable inside marks.InOut = true
assignable inside _ = inside

-- a left side through which an `out` property of others may be linked
abbrev pub takes_out : Mark → Bool
takes_out marks.None = true
takes_out marks.Private = true
takes_out marks.Out = true
takes_out _ = false

-- a property may be linked as a right side, beside a left side's mark
abbrev pub linkable : Bool → Mark → Mark → Bool
linkable inside left marks.In = true
linkable inside left marks.InOut = true
linkable inside left marks.Out = inside || takes_out left
linkable inside left _ = inside

-- a function may be called, by its owner's body, by that of a component that inherits the owner, and by others
abbrev pub callable : Bool → Bool → Access → Bool
callable inside below access.None = inside
callable inside below access.Protected = inside || below
callable inside below access.Public = true

-- the member that a reference of a body names, if it is there
abbrev pub component_of_site : Site → ℕ
component_of_site (site.Element c e) = c
component_of_site (site.Global g) = 0

abbrev pub declared_found : MemberRef → ℕ → Option Member → Option Found
declared_found member c None = None
declared_found member c (Some m) = Some (record { member = member; kind = m.kind; owner = owners.Component c })

abbrev pub built_in_named : MemberRef → Option (List ℕ × BuiltInMember) → Option Found
built_in_named member None = None
built_in_named member (Some row) = Some (record { member = member; kind = kind_of row.1.kind; owner = owners.Nobody })

abbrev pub global_found : MemberRef → ℕ → Option Member → Option Found
global_found member g None = None
global_found member g (Some m) = Some (record { member = member; kind = m.kind; owner = owners.Global g })

abbrev pub of_element : Outline → Site → ℕ → ElementMember → Option Found
of_element outline at e (element_member.BuiltIn n) = built_in_named (member_ref.Element e (element_member.BuiltIn n))
    (row_numbered n (members (lineage outline.comps (type_of outline.comps (component_of_site at) e)).kind))
of_element outline at e (element_member.Declared c n) = declared_found (member_ref.Element e (element_member.Declared c n)) c (slice_get (members_in (slice_get outline.comps c)) n)

abbrev pub member_found : Outline → Site → MemberRef → Option Found
member_found outline at (member_ref.Element e member) = of_element outline at e member
member_found outline at (member_ref.Global g n) = global_found (member_ref.Global g n) g (slice_get (global_members_in (slice_get outline.globals g)) n)

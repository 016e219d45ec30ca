-- The members that the names of items stand for.
use Rattle.std.specs.Prelude.{ℕ, Bool, true, false, ◌&&◌, ◌||◌, not, ◌==◌, ◌≡◌, if◌then◌else◌, length, List, [], ◌∷◌, map, codes, Option, Some, None, Result, Ok, Err, nat_le}
use Rattle.std.specs.Str.{bytes_eq}
use Rattle.slint_base.specs.declared.faults.Fault.{Fault}
use Rattle.slint_base.specs.declared.faults.Span.{Span}
use Rattle.slint_base.specs.declared.rules.Rule.TheVariants as rules
use Rattle.syntax_tree.specs.declared.words.Ident.{Ident}
use Rattle.syntax_tree.specs.declared.words.Path.{Path}
use Rattle.syntax_tree.specs.declared.types.Field.{Field, out-Field}
use Rattle.value_types.specs.declared.types.Ty.{Ty}
use Rattle.value_types.specs.declared.types.Ty.TheVariants as ty
use Rattle.typed_tree.specs.declared.members.ElementMember.TheVariants as element_member
use Rattle.typed_tree.specs.declared.members.Found.{Found}
use Rattle.typed_tree.specs.declared.members.MemberKind.{MemberKind}
use Rattle.typed_tree.specs.declared.members.MemberKind.TheVariants as kinds
use Rattle.typed_tree.specs.declared.members.MemberRef.{MemberRef}
use Rattle.typed_tree.specs.declared.members.MemberRef.TheVariants as member_ref
use Rattle.typed_tree.specs.declared.members.Signature.{Signature}
use Rattle.typed_tree.specs.declared.scopes.Local.{Local}
use Rattle.typed_tree.specs.declared.scopes.Site.{Site}
use Rattle.typed_tree.specs.declared.scopes.Site.TheVariants as site
use Rattle.typed_tree.specs.declared.trees.HandlerOf.{HandlerOf}
use Rattle.typed_tree.specs.declared.trees.HandlerOf.TheVariants as handler_of
use Rattle.typed_tree.specs.Scopes.{ScopeValue}
use Rattle.name_lookup.specs.declared.leads.Lead.{Lead}
use Rattle.name_lookup.specs.declared.leads.Lead.TheVariants as leads
use Rattle.name_lookup.specs.Leads.{own_member, path_name}
use Rattle.expr_rules.specs.Denotations.{broken}
use Rattle.expr_rules.specs.Own.{joined}

abbrev pub lost : {A : Type 0} → Span → Result A Fault
lost span = broken rules.UnknownName span

-- from the first token of a path to its last one
abbrev pub path_span : Path → Span
path_span path = joined path.first.span (path_name path)

-- a property, with its type
abbrev pub property_of : Span → MemberRef → MemberKind → Result (MemberRef × Ty) Fault
property_of span member (kinds.Property mark t) = Ok (member, t)
property_of span member _ = lost span

abbrev pub property_found : Span → Option Found → Result (MemberRef × Ty) Fault
property_found span None = lost span
property_found span (Some f) = property_of span f.member f.kind

-- a path that leads to anything else is told at its last name
abbrev pub property_led : Path → Lead → Result (MemberRef × Ty) Fault
property_led path (leads.Lost span) = lost span
property_led path (leads.To f) = property_of (path_name path) f.member f.kind

-- a declared function: its number among the members that are declared with it, and what it takes and gives
abbrev pub function_numbered : Span → MemberRef → Signature → Result (ℕ × Signature) Fault
function_numbered span (member_ref.Element e (element_member.Declared c n)) signature = Ok (n, signature)
function_numbered span (member_ref.Element e (element_member.BuiltIn n)) signature = lost span
function_numbered span (member_ref.Global g n) signature = Ok (n, signature)

abbrev pub function_of : Span → MemberRef → MemberKind → Result (ℕ × Signature) Fault
function_of span member (kinds.Function pure access signature) = function_numbered span member signature
function_of span member _ = lost span

abbrev pub function_found : Span → Option Found → Result (ℕ × Signature) Fault
function_found span None = lost span
function_found span (Some f) = function_of span f.member f.kind

-- what a handler is of: `init`, which takes nothing and gives nothing, or a callback
abbrev pub callback_of : Span → MemberRef → MemberKind → Result (HandlerOf × Signature) Fault
callback_of span member (kinds.Callback pure signature) = Ok (handler_of.Callback member, signature)
callback_of span member _ = lost span

abbrev pub callback_found : Span → Option Found → Result (HandlerOf × Signature) Fault
callback_found span None = lost span
callback_found span (Some f) = callback_of span f.member f.kind

abbrev pub no_signature : Signature
no_signature = record { parameters = []; result = ty.Void }

abbrev pub handled : ScopeValue → Ident → Result (HandlerOf × Signature) Fault
handled s name = if bytes_eq name.name (codes "init") then Ok (handler_of.Init, no_signature) else callback_found name.span (own_member s name.name)

-- a handler may leave parameters out, but has no further ones
abbrev pub counted : Span → List Ident → HandlerOf × Signature → Result (HandlerOf × Signature) Fault
counted span names h = if nat_le (length names) (length h.1.parameters) then Ok h else broken rules.ArgCount span

-- a side of a link: a property or a callback
abbrev pub is_function : MemberKind → Bool
is_function (kinds.Function pure access signature) = true
is_function _ = false

abbrev pub side_of : Span → Found → Result Found Fault
side_of span f = if is_function f.kind then lost span else Ok f

abbrev pub side_found : Span → Option Found → Result Found Fault
side_found span None = lost span
side_found span (Some f) = side_of span f

abbrev pub side_led : Path → Lead → Result Found Fault
side_led path (leads.Lost span) = lost span
side_led path (leads.To f) = side_of (path_name path) f

-- `width` and `height`, of an element that isn't the component's root: 2 and 3 of the members of each element
abbrev pub is_size : MemberRef → Bool
is_size (member_ref.Element e (element_member.BuiltIn n)) = (n == 2) || (n == 3)
is_size _ = false

abbrev pub is_below_root : Site → Bool
is_below_root (site.Element c e) = not (e == 0)
is_below_root (site.Global g) = false

-- `row`, `col`, `rowspan` and `colspan`: 15 to 18 of the members of each element
abbrev pub is_grid_number : MemberRef → Bool
is_grid_number (member_ref.Element e (element_member.BuiltIn n)) = nat_le 15 n && nat_le n 18
is_grid_number _ = false

-- names, with the types of parameters
abbrev pub locals : List Ident → List Ty → List Local
locals [] ts = []
locals (x ∷ xs) [] = []
locals (x ∷ xs) (t ∷ ts) = record { name = x.name; ty = t } ∷ locals xs ts

abbrev pub names_or_none : Option (List Ident) → List Ident
names_or_none None = []
names_or_none (Some names) = names

abbrev pub field_names : List Field → List Ident
field_names fields = map (λ f. (out-Field f).name) fields

abbrev pub with_parameters : ScopeValue → List Local → ScopeValue
with_parameters s parameters = record { outline = s.outline; site = s.site; parameters = parameters; rows = s.rows }

-- What a name stands for: the order in which names are looked up, and the members behind a point.
use Rattle.std.specs.Prelude.{ℕ, suc, Bool, true, false, List, [], ◌∷◌, slice_get, if◌then◌else◌, codes, Option, Some, None, Result, Ok, Err, encode_utf8}
use Rattle.std.specs.Option.{option_map, option_or}
use Rattle.std.specs.Str.{bytes_eq}
use Rattle.slint_base.specs.declared.faults.Span.{Span}
use Rattle.slint_base.specs.declared.rules.Rule.{Rule}
use Rattle.slint_base.specs.declared.rules.Rule.TheVariants as rules
use Rattle.value_types.specs.declared.types.Ty.{Ty, out-Ty}
use Rattle.value_types.specs.declared.types.Ty.TheOpen as form
use Rattle.value_types.specs.declared.types.Ty.TheVariants as ty
use Rattle.value_types.specs.declared.values.Value.TheVariants as value
use Rattle.value_types.specs.Conversions.{Form, field_named}
use Rattle.value_reading.specs.ColourNames.{color_named}
use Rattle.element_tables.specs.declared.functions.Namespace.{Namespace}
use Rattle.element_tables.specs.declared.functions.Namespace.TheVariants as namespace
use Rattle.element_tables.specs.declared.functions.ValueMember.{ValueMember}
use Rattle.element_tables.specs.declared.functions.ValueMemberKind.{ValueMemberKind}
use Rattle.element_tables.specs.declared.functions.ValueMemberKind.TheVariants as asks
use Rattle.element_tables.specs.Functions.{functions, namespaces, string_members, array_members}
use Rattle.element_tables.specs.Keys.{keys}
use Rattle.element_tables.specs.Rows.{named}
use Rattle.element_tables.specs.Types.{types, enum_in}
use Rattle.typed_tree.specs.declared.expressions.Callee.{Callee}
use Rattle.typed_tree.specs.declared.expressions.Callee.TheVariants as callee
use Rattle.typed_tree.specs.declared.expressions.ExprKind.{ExprKind}
use Rattle.typed_tree.specs.declared.expressions.ExprKind.TheVariants as exprs
use Rattle.typed_tree.specs.declared.expressions.ExprKind.TheOpen.{ExprKind-F}
use Rattle.typed_tree.specs.declared.expressions.StepKind.TheVariants as step
use Rattle.typed_tree.specs.declared.expressions.TypedExpr.{TypedExpr}
use Rattle.typed_tree.specs.declared.members.ElementMember.TheVariants as element_member
use Rattle.typed_tree.specs.declared.members.MemberKind.{MemberKind}
use Rattle.typed_tree.specs.declared.members.MemberKind.TheVariants as kinds
use Rattle.typed_tree.specs.declared.members.MemberRef.{MemberRef}
use Rattle.typed_tree.specs.declared.members.MemberRef.TheVariants as member_ref
use Rattle.typed_tree.specs.declared.outlines.Declared.{Declared}
use Rattle.typed_tree.specs.declared.outlines.Declared.TheVariants as declared
use Rattle.typed_tree.specs.declared.outlines.Outline.{Outline}
use Rattle.typed_tree.specs.declared.scopes.Local.{Local}
use Rattle.typed_tree.specs.declared.scopes.RowNames.{RowNames}
use Rattle.typed_tree.specs.declared.scopes.Site.{Site}
use Rattle.typed_tree.specs.declared.scopes.Site.TheVariants as site
use Rattle.typed_tree.specs.BuiltIns.{built_in_ty, enum_number}
use Rattle.typed_tree.specs.Elements.{parent_element, id_seen}
use Rattle.typed_tree.specs.Files.{declared_among, names_in, file_of, value_number}
use Rattle.typed_tree.specs.declared.members.Found.{Found}
use Rattle.typed_tree.specs.Members.{element_member_named, global_member_named, is_inside, inherits, readable, callable}
use Rattle.typed_tree.specs.Scopes.{ScopeValue}
use Rattle.typed_tree.specs.Typed.{typed, typed_step, part_of, expr_ty, KindLayer, kind_layer}
use Rattle.name_lookup.specs.declared.meanings.Meaning.{Meaning}
use Rattle.name_lookup.specs.declared.meanings.Meaning.TheVariants as meaning
use Rattle.typed_tree.specs.Scopes.{Place}

-- what a look-up finds: nothing, or something, or something that may not be used so
abbrev pub Lookup : Type 0
Lookup = Option (Result Meaning Rule)

abbrev pub found : Meaning → Lookup
found m = Some (Ok m)

-- the value of an expression
abbrev pub a_value : ExprKind → Ty → Span → Meaning
a_value kind t span = meaning.Value (typed kind t span)

-- the members of elements and globals

-- a function that is built into an element gives it the focus
abbrev pub function_of : MemberRef → Callee
function_of (member_ref.Element e (element_member.BuiltIn n)) = callee.Focus e
function_of member = callee.Function member

-- what a member stands for, where it may be read or called from a body
abbrev pub member_meaning : Bool → Bool → MemberRef → MemberKind → Span → Result Meaning Rule
member_meaning inside below member (kinds.Property mark t) span = if readable inside mark then Ok (a_value (exprs.Property member) t span) else Err rules.Visibility
member_meaning inside below member (kinds.Callback pure signature) span = Ok (meaning.Callable (callee.Callback member) signature)
member_meaning inside below member (kinds.Function pure access signature) span = if callable inside below access then Ok (meaning.Callable (function_of member) signature) else Err rules.Visibility

abbrev pub use_of : ScopeValue → Span → Found → Result Meaning Rule
use_of s span f = member_meaning (is_inside s.site f.owner) (inherits s.outline.comps s.site f.owner) f.member f.kind span

abbrev pub component_of : Site → Option ℕ
component_of (site.Element c e) = Some c
component_of (site.Global g) = None

-- a member of an element of the component at hand
abbrev pub member_of_element : ScopeValue → ℕ → ℕ → List ℕ → Span → Lookup
member_of_element s c e name span = option_map (use_of s span) (element_member_named s.outline.comps c e name)

abbrev pub member_here : ScopeValue → Site → ℕ → List ℕ → Span → Lookup
member_here s (site.Element c around) e name span = member_of_element s c e name span
member_here s (site.Global g) e name span = None

abbrev pub member_of_global : ScopeValue → ℕ → List ℕ → Span → Lookup
member_of_global s g name span = option_map (use_of s span) (global_member_named s.outline.globals g name)

-- the steps of the look-up, in their order

-- 1: a parameter; parameters are counted from n
abbrev pub parameter_among : ℕ → List ℕ → List Local → Span → Lookup
parameter_among n name [] span = None
parameter_among n name (p ∷ ps) span = if bytes_eq p.name name then found (a_value (exprs.Parameter n) p.ty span) else parameter_among (suc n) name ps span

-- 2: the words that are always there; a component's root element and a global have no parent. Of an element in a `Row` the parent is the grid
abbrev pub or_unknown : Option ℕ → Lookup
or_unknown None = Some (Err rules.UnknownName)
or_unknown (Some e) = found (meaning.Element e)

abbrev pub parent_word : Outline → Site → Lookup
parent_word outline (site.Element c e) = or_unknown (parent_element outline c e)
parent_word outline (site.Global g) = Some (Err rules.UnknownName)

abbrev pub self_of : Site → Meaning
self_of (site.Element c e) = meaning.Element e
self_of (site.Global g) = meaning.Global g

abbrev pub root_of : Site → Meaning
root_of (site.Element c e) = meaning.Element 0
root_of (site.Global g) = meaning.Global g

abbrev pub word : ScopeValue → List ℕ → Span → Lookup
word s name span = if bytes_eq name (codes "true") then found (a_value (exprs.Literal (value.Bool true)) ty.Bool span)
    else if bytes_eq name (codes "false") then found (a_value (exprs.Literal (value.Bool false)) ty.Bool span)
    else if bytes_eq name (codes "root") then found (root_of s.site)
    else if bytes_eq name (codes "self") then found (self_of s.site)
    else if bytes_eq name (codes "parent") then parent_word s.outline s.site
    else None

-- 3: the names of the repeaters around, innermost first, of each the number's name before the item's
abbrev pub is_name : List ℕ → Option (List ℕ) → Bool
is_name name None = false
is_name name (Some other) = bytes_eq other name

abbrev pub row_among : List ℕ → List RowNames → Span → Lookup
row_among name [] span = None
row_among name (r ∷ rs) span = if is_name name r.number then found (a_value (exprs.RowNumber r.element) ty.Int span)
    else if bytes_eq r.item name then found (a_value (exprs.RowItem r.element) r.ty span)
    else row_among name rs span

-- 4: an id of the component that is seen from here
abbrev pub id_here : Outline → Site → List ℕ → Lookup
id_here outline at name = option_map (λ e. Ok (meaning.Element e)) (id_seen outline.comps at name)

-- 5 and 6: a member of `self`, and of `root`
abbrev pub member_of : ScopeValue → Meaning → List ℕ → Span → Lookup
member_of s (meaning.Element e) name span = member_here s s.site e name span
member_of s (meaning.Global g) name span = member_of_global s g name span
member_of s _ name span = None

-- 7: a global or an enum of the file; built-in names only where the file declares none of that name
abbrev pub built_in_name : List ℕ → Lookup
built_in_name name = option_or (option_map (λ of. Ok (meaning.Enum (enum_number of))) (enum_in (named name types))) (option_map (λ of. Ok (meaning.Namespace of)) (named name namespaces))

abbrev pub declared_meaning : Declared → Lookup
declared_meaning (declared.Global g) = found (meaning.Global g)
declared_meaning (declared.Enum k) = found (meaning.Enum k)
declared_meaning _ = None

abbrev pub or_built_in : List ℕ → Option Declared → Lookup
or_built_in name None = built_in_name name
or_built_in name (Some d) = declared_meaning d

abbrev pub file_name : ScopeValue → List ℕ → Lookup
file_name s name = or_built_in name (declared_among name (names_in (slice_get s.outline.files (file_of s.outline s.site))))

-- a value of an enum
abbrev pub enum_value : Outline → ℕ → List ℕ → Span → Lookup
enum_value outline k name span = option_map (λ v. Ok (a_value (exprs.Literal (value.Enum k v)) (ty.Enum k) span)) (value_number outline.enums k name)

-- 8: a value of the enum that is wanted
abbrev pub value_of_form : Outline → Form → List ℕ → Span → Lookup
value_of_form outline (form.Enum k) name span = enum_value outline k name span
value_of_form outline _ name span = None

abbrev pub wanted_value : Outline → Place → List ℕ → Span → Lookup
wanted_value outline None name span = None
wanted_value outline (Some t) name span = value_of_form outline (out-Ty t) name span

-- 9 and 10: a colour, and a built-in function
abbrev pub colour : List ℕ → Span → Lookup
colour name span = option_map (λ c. Ok (a_value (exprs.Literal (value.Color c)) ty.Color span)) (color_named name)

abbrev pub math : List ℕ → Lookup
math name = option_map (λ f. Ok (meaning.Math f)) (named name functions)

-- the steps before those of members, and the ones behind
abbrev pub near_name : ScopeValue → List ℕ → Span → Lookup
near_name s name span = option_or (parameter_among 0 name s.parameters span) (option_or (word s name span) (option_or (row_among name s.rows span) (id_here s.outline s.site name)))

abbrev pub far_name : ScopeValue → Place → List ℕ → Span → Lookup
far_name s place name span = option_or (file_name s name) (option_or (wanted_value s.outline place name span) (option_or (colour name span) (math name)))

-- what a name stands for at a place, if it stands for anything
abbrev pub looked_up : ScopeValue → Place → List ℕ → Span → Lookup
looked_up s place name span = option_or (near_name s name span)
    (option_or (member_of s (self_of s.site) name span)
    (option_or (member_of s (root_of s.site) name span)
    (far_name s place name span)))

-- behind a point

abbrev pub of_namespace : Namespace → List ℕ → Span → Lookup
of_namespace namespace.Math name span = math name
of_namespace namespace.Colors name span = colour name span
of_namespace namespace.Key name span = option_map (λ key. Ok (a_value (exprs.Literal (value.Str (encode_utf8 key))) ty.Str span)) (named name keys)

-- the length of a property that is written as a plain path is read without the rest of it
abbrev pub ask_kind : Bool → ValueMemberKind → KindLayer → TypedExpr → ExprKind
ask_kind true asks.Length (ExprKind-F.Property member) e = exprs.PropertyLength member
ask_kind plain ask layer e = exprs.Ask ask e

abbrev pub asking : Bool → ValueMemberKind → TypedExpr → ExprKind
asking plain ask e = ask_kind plain ask (kind_layer e) e

-- a member that is built into values: called, or as it is
abbrev pub built_in_member : Bool → TypedExpr → Span → ValueMember → Meaning
built_in_member plain e span m = if m.is_called then meaning.Method m e else a_value (asking plain m.kind e) (built_in_ty m.result) span

abbrev pub of_form : Bool → TypedExpr → Form → List ℕ → Span → Option Meaning
of_form plain e (form.Struct fields) name span = option_map (λ t. meaning.Value (part_of e (typed_step (step.ToField name) t) span)) (field_named name fields)
of_form plain e form.Str name span = option_map (built_in_member plain e span) (named name string_members)
of_form plain e (form.Array item) name span = option_map (built_in_member plain e span) (named name array_members)
of_form plain e form.Empty name span = option_map (built_in_member plain e span) (named name array_members)
of_form plain e _ name span = None

abbrev pub of_value : Bool → TypedExpr → List ℕ → Span → Lookup
of_value plain e name span = option_map (λ m. Ok m) (of_form plain e (out-Ty (expr_ty e)) name span)

-- what stands behind a point, of what can have something there
abbrev pub behind_point : ScopeValue → Bool → Meaning → List ℕ → Span → Lookup
behind_point s plain (meaning.Value e) name span = of_value plain e name span
behind_point s plain (meaning.Element e) name span = member_here s s.site e name span
behind_point s plain (meaning.Global g) name span = member_of_global s g name span
behind_point s plain (meaning.Enum k) name span = enum_value s.outline k name span
behind_point s plain (meaning.Namespace of) name span = of_namespace of name span
behind_point s plain _ name span = None

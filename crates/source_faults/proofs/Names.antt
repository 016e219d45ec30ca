-- What look-ups of names break.
use Rattle.std.specs.Option.{option_map, option_or}
use Rattle.std.specs.Str.{bytes_eq}
use Rattle.std.proofs.Common.{if◌then◌else◌, ◌≡◌, ℕ, suc, Bool, true, false, ◌&&◌, ◌||◌, List, [], ◌∷◌, codes, slice_get, Option, Some, None, Ok, Err, encode_utf8, refl}
use Rattle.slint_base.specs.declared.faults.Span.{Span}
use Rattle.slint_base.specs.declared.rules.Rule.{Rule}
use Rattle.slint_base.specs.declared.rules.Rule.TheVariants as rules
use Rattle.value_types.specs.declared.types.Ty.{Ty, out-Ty}
use Rattle.value_types.specs.declared.types.Ty.TheOpen as form
use Rattle.value_types.specs.declared.types.Ty.TheVariants as ty
use Rattle.value_types.specs.declared.values.Value.TheVariants as value
use Rattle.value_types.specs.CommonTypes.{common}
use Rattle.value_types.specs.Conversions.{Form}
use Rattle.value_reading.specs.ColourNames.{color_named}
use Rattle.element_tables.specs.declared.functions.Namespace.{Namespace}
use Rattle.element_tables.specs.declared.functions.Namespace.TheVariants as namespace
use Rattle.element_tables.specs.declared.operators.Op.{Op}
use Rattle.element_tables.specs.declared.operators.Op.TheVariants as op
use Rattle.element_tables.specs.declared.operators.Operation.{Operation}
use Rattle.element_tables.specs.declared.operators.TyCode.{TyCode}
use Rattle.element_tables.specs.Functions.{functions, namespaces}
use Rattle.element_tables.specs.Keys.{keys}
use Rattle.element_tables.specs.Operands.{between, by_common, by_row, by_rows, counted, is_equality, operands_of}
use Rattle.element_tables.specs.Operators.{code_of, is_number, is_unit, missing_rule, operation, operations}
use Rattle.element_tables.specs.Rows.{named}
use Rattle.element_tables.specs.Types.{enum_in, types}
use Rattle.typed_tree.specs.declared.expressions.ExprKind.TheVariants as exprs
use Rattle.typed_tree.specs.declared.expressions.TypedExpr.{TypedExpr}
use Rattle.typed_tree.specs.declared.members.Found.{Found}
use Rattle.typed_tree.specs.declared.members.MemberKind.{MemberKind}
use Rattle.typed_tree.specs.declared.members.MemberKind.TheVariants as kinds
use Rattle.typed_tree.specs.declared.members.MemberRef.{MemberRef}
use Rattle.typed_tree.specs.declared.outlines.Declared.{Declared}
use Rattle.typed_tree.specs.declared.outlines.Declared.TheVariants as declared
use Rattle.typed_tree.specs.declared.outlines.Outline.{Outline}
use Rattle.typed_tree.specs.declared.scopes.Local.{Local}
use Rattle.typed_tree.specs.declared.scopes.RowNames.{RowNames}
use Rattle.typed_tree.specs.declared.scopes.Site.{Site}
use Rattle.typed_tree.specs.declared.scopes.Site.TheVariants as site
use Rattle.typed_tree.specs.BuiltIns.{enum_number}
use Rattle.typed_tree.specs.Elements.{id_seen, parent_element}
use Rattle.typed_tree.specs.Files.{declared_among, file_of, names_in, value_number}
use Rattle.typed_tree.specs.Members.{callable, element_member_named, global_member_named, inherits, is_inside, readable}
use Rattle.typed_tree.specs.Scopes.{Place, ScopeValue}
use Rattle.typed_tree.specs.Typed.{expr_ty}
use Rattle.name_lookup.specs.declared.meanings.Meaning.{Meaning}
use Rattle.name_lookup.specs.declared.meanings.Meaning.TheVariants as meaning
use Rattle.name_lookup.specs.Names.{Lookup, a_value, behind_point, built_in_name, colour, declared_meaning, enum_value, far_name, file_name, found, function_of, id_here, is_name, looked_up, math, member_here, member_meaning, member_of, member_of_global, near_name, of_form, of_namespace, of_value, or_built_in, or_unknown, parameter_among, parent_word, root_of, row_among, self_of, use_of, value_of_form, wanted_value, word}
use Rattle.source_faults.proofs.Others.{is_missing}
use Rattle.source_faults.proofs.Results.{OrLost, OrRule, breach, if_lost, if_rule, lost, mapped, met, or_lost, sound}

open_to : (b : Bool) (m : Meaning) → OrRule (if b then Ok m else Err rules.Visibility)
open_to true m = sound
open_to false m = breach refl

a_member : (inside below : Bool) (member : MemberRef) (kind : MemberKind) (span : Span) → OrRule (member_meaning inside below member kind span)
a_member inside below member (kinds.Property mark t) span = open_to (readable inside mark) (a_value (exprs.Property member) t span)
a_member inside below member (kinds.Callback pure signature) span = sound
a_member inside below member (kinds.Function pure access signature) span = open_to (callable inside below access) (meaning.Callable (function_of member) signature)

a_use : (s : ScopeValue) (span : Span) (f : Found) → OrRule (use_of s span f)
a_use s span f = a_member (is_inside s.site f.owner) (inherits s.outline.comps s.site f.owner) f.member f.kind span

here : (s : ScopeValue) (at : Site) (e : ℕ) (name : List ℕ) (span : Span) → OrLost (member_here s at e name span)
here s (site.Element c around) e name span = mapped (use_of s span) (a_use s span) (element_member_named s.outline.comps c e name)
here s (site.Global g) e name span = lost

of_global : (s : ScopeValue) (g : ℕ) (name : List ℕ) (span : Span) → OrLost (member_of_global s g name span)
of_global s g name span = mapped (use_of s span) (a_use s span) (global_member_named s.outline.globals g name)

among : (n : ℕ) (name : List ℕ) (ps : List Local) (span : Span) → OrLost (parameter_among n name ps span)
among n name [] span = lost
among n name (p ∷ ps) span = if_lost (bytes_eq p.name name) (found (a_value (exprs.Parameter n) p.ty span)) (parameter_among (suc n) name ps span) (met sound) (among (suc n) name ps span)

or_unknown_other : (o : Option ℕ) → OrLost (or_unknown o)
or_unknown_other None = met (breach refl)
or_unknown_other (Some e) = met sound

parent : (outline : Outline) (at : Site) → OrLost (parent_word outline at)
parent outline (site.Element c e) = or_unknown_other (parent_element outline c e)
parent outline (site.Global g) = met (breach refl)

if_met : (b : Bool) (m : Meaning) (y : Lookup) → OrLost y → OrLost (if b then found m else y)
if_met true m y q = met sound
if_met false m y q = q

a_word : (s : ScopeValue) (name : List ℕ) (span : Span) → OrLost (word s name span)
a_word s name span = if_met (bytes_eq name (codes "true")) (a_value (exprs.Literal (value.Bool true)) ty.Bool span) _
    (if_met (bytes_eq name (codes "false")) (a_value (exprs.Literal (value.Bool false)) ty.Bool span) _
    (if_met (bytes_eq name (codes "root")) (root_of s.site) _
    (if_met (bytes_eq name (codes "self")) (self_of s.site) _
    (if_lost (bytes_eq name (codes "parent")) (parent_word s.outline s.site) None (parent s.outline s.site) lost))))

a_row : (name : List ℕ) (rows : List RowNames) (span : Span) → OrLost (row_among name rows span)
a_row name [] span = lost
a_row name (r ∷ rs) span = if_met (is_name name r.number) (a_value (exprs.RowNumber r.element) ty.Int span) _
    (if_met (bytes_eq r.item name) (a_value (exprs.RowItem r.element) r.ty span) (row_among name rs span) (a_row name rs span))

an_id : (outline : Outline) (at : Site) (name : List ℕ) → OrLost (id_here outline at name)
an_id outline at name = mapped (λ e. Ok (meaning.Element e)) (λ e. sound) (id_seen outline.comps at name)

of_meaning : (s : ScopeValue) (m : Meaning) (name : List ℕ) (span : Span) → OrLost (member_of s m name span)
of_meaning s (meaning.Value e) name span = lost
of_meaning s (meaning.Callable f signature) name span = lost
of_meaning s (meaning.Math function) name span = lost
of_meaning s (meaning.Method m e) name span = lost
of_meaning s (meaning.Element e) name span = here s s.site e name span
of_meaning s (meaning.Global g) name span = of_global s g name span
of_meaning s (meaning.Enum k) name span = lost
of_meaning s (meaning.Namespace of) name span = lost

built_in : (name : List ℕ) → OrLost (built_in_name name)
built_in name = or_lost (option_map (λ of. Ok (meaning.Enum (enum_number of))) (enum_in (named name types))) (option_map (λ of. Ok (meaning.Namespace of)) (named name namespaces))
    (mapped (λ of. Ok (meaning.Enum (enum_number of))) (λ of. sound) (enum_in (named name types))) (mapped (λ of. Ok (meaning.Namespace of)) (λ of. sound) (named name namespaces))

a_declared : (d : Declared) → OrLost (declared_meaning d)
a_declared (declared.Component c) = lost
a_declared (declared.Global g) = met sound
a_declared (declared.Struct k) = lost
a_declared (declared.Enum k) = met sound

or_built : (name : List ℕ) (d : Option Declared) → OrLost (or_built_in name d)
or_built name None = built_in name
or_built name (Some d) = a_declared d

of_file : (s : ScopeValue) (name : List ℕ) → OrLost (file_name s name)
of_file s name = or_built name (declared_among name (names_in (slice_get s.outline.files (file_of s.outline s.site))))

an_enum_value : (outline : Outline) (k : ℕ) (name : List ℕ) (span : Span) → OrLost (enum_value outline k name span)
an_enum_value outline k name span = mapped (λ v. Ok (a_value (exprs.Literal (value.Enum k v)) (ty.Enum k) span)) (λ v. sound) (value_number outline.enums k name)

of_form_other : (outline : Outline) (t : Form) (name : List ℕ) (span : Span) → OrLost (value_of_form outline t name span)
of_form_other outline (form.Enum k) name span = an_enum_value outline k name span
of_form_other outline form.Void name span = lost
of_form_other outline form.Zero name span = lost
of_form_other outline form.Int name span = lost
of_form_other outline form.Float name span = lost
of_form_other outline form.Percent name span = lost
of_form_other outline form.Bool name span = lost
of_form_other outline form.Str name span = lost
of_form_other outline form.Color name span = lost
of_form_other outline form.Length name span = lost
of_form_other outline form.Duration name span = lost
of_form_other outline form.Angle name span = lost
of_form_other outline form.Image name span = lost
of_form_other outline (form.Struct fields) name span = lost
of_form_other outline (form.Array item) name span = lost
of_form_other outline form.Empty name span = lost

wanted : (outline : Outline) (place : Place) (name : List ℕ) (span : Span) → OrLost (wanted_value outline place name span)
wanted outline None name span = lost
wanted outline (Some t) name span = of_form_other outline (out-Ty t) name span

a_colour : (name : List ℕ) (span : Span) → OrLost (colour name span)
a_colour name span = mapped (λ c. Ok (a_value (exprs.Literal (value.Color c)) ty.Color span)) (λ c. sound) (color_named name)

a_function : (name : List ℕ) → OrLost (math name)
a_function name = mapped (λ f. Ok (meaning.Math f)) (λ f. sound) (named name functions)

near : (s : ScopeValue) (name : List ℕ) (span : Span) → OrLost (near_name s name span)
near s name span = or_lost (parameter_among 0 name s.parameters span) (option_or (word s name span) (option_or (row_among name s.rows span) (id_here s.outline s.site name))) (among 0 name s.parameters span)
    (or_lost (word s name span) (option_or (row_among name s.rows span) (id_here s.outline s.site name)) (a_word s name span)
    (or_lost (row_among name s.rows span) (id_here s.outline s.site name) (a_row name s.rows span) (an_id s.outline s.site name)))

far : (s : ScopeValue) (place : Place) (name : List ℕ) (span : Span) → OrLost (far_name s place name span)
far s place name span = or_lost (file_name s name) (option_or (wanted_value s.outline place name span) (option_or (colour name span) (math name))) (of_file s name)
    (or_lost (wanted_value s.outline place name span) (option_or (colour name span) (math name)) (wanted s.outline place name span)
    (or_lost (colour name span) (math name) (a_colour name span) (a_function name)))

pub looked_up_other : (s : ScopeValue) (place : Place) (name : List ℕ) (span : Span) → OrLost (looked_up s place name span)
looked_up_other s place name span = or_lost (near_name s name span) (option_or (member_of s (self_of s.site) name span) (option_or (member_of s (root_of s.site) name span) (far_name s place name span))) (near s name span)
    (or_lost (member_of s (self_of s.site) name span) (option_or (member_of s (root_of s.site) name span) (far_name s place name span)) (of_meaning s (self_of s.site) name span)
    (or_lost (member_of s (root_of s.site) name span) (far_name s place name span) (of_meaning s (root_of s.site) name span) (far s place name span)))

in_namespace : (of : Namespace) (name : List ℕ) (span : Span) → OrLost (of_namespace of name span)
in_namespace namespace.Math name span = a_function name
in_namespace namespace.Colors name span = a_colour name span
in_namespace namespace.Key name span = mapped (λ key. Ok (a_value (exprs.Literal (value.Str (encode_utf8 key))) ty.Str span)) (λ key. sound) (named name keys)

in_value : (plain : Bool) (e : TypedExpr) (name : List ℕ) (span : Span) → OrLost (of_value plain e name span)
in_value plain e name span = mapped (λ m. Ok m) (λ m. sound) (of_form plain e (out-Ty (expr_ty e)) name span)

pub behind_other : (s : ScopeValue) (plain : Bool) (m : Meaning) (name : List ℕ) (span : Span) → OrLost (behind_point s plain m name span)
behind_other s plain (meaning.Value e) name span = in_value plain e name span
behind_other s plain (meaning.Callable f signature) name span = lost
behind_other s plain (meaning.Math function) name span = lost
behind_other s plain (meaning.Method m e) name span = lost
behind_other s plain (meaning.Element e) name span = here s s.site e name span
behind_other s plain (meaning.Global g) name span = of_global s g name span
behind_other s plain (meaning.Enum k) name span = an_enum_value s.outline k name span
behind_other s plain (meaning.Namespace of) name span = in_namespace of name span

-- ---- operators

if_unit : (b : Bool) → is_missing (if b then rules.UnitProduct else rules.NoOperator) ≡ false
if_unit true = refl
if_unit false = refl

no_row : (o : Op) (left right : TyCode) → is_missing (missing_rule o left right) ≡ false
no_row op.Mul left right = if_unit (is_unit left && is_unit right)
no_row op.Div left right = if_unit (is_unit right && (is_unit left || is_number left))
no_row op.Add left right = refl
no_row op.Sub left right = refl
no_row op.Less left right = refl
no_row op.LessEqual left right = refl
no_row op.Greater left right = refl
no_row op.GreaterEqual left right = refl
no_row op.Equal left right = refl
no_row op.NotEqual left right = refl
no_row op.And left right = refl
no_row op.Or left right = refl

in_common : (t : Option Ty) → OrRule (by_common t)
in_common None = breach refl
in_common (Some t) = sound

in_row : (rule : Rule) (row : Option Operation) → is_missing rule ≡ false → OrRule (by_row rule row)
in_row rule None p = breach p
in_row rule (Some row) p = sound

in_rows : (o : Op) (left right : TyCode) → OrRule (by_rows o left right)
in_rows o left right = in_row (missing_rule o left right) (operation o left right operations) (no_row o left right)

operands : (o : Op) (left right : Ty) → OrRule (between o left right)
operands o left right = if_rule (is_equality o) (by_common (common left right)) (by_rows o (code_of (out-Ty left)) (code_of (out-Ty right))) (in_common (common left right))
    (in_rows o (code_of (out-Ty left)) (code_of (out-Ty right)))

pub operands_other : (o : Op) (left right : Ty) → OrRule (operands_of o left right)
operands_other o left right = operands o (counted o left right) (counted o right left)

-- What a node comes to once all its parts have come to something, or the rule that it breaks.
use Rattle.std.specs.Prelude.{ℕ, Bool, true, false, ◌||◌, ◌==◌, if◌then◌else◌, List, [], ◌∷◌, ◌++◌, map, length, Option, Some, None, option_and_then, Result, Ok, Err}
use Rattle.std.specs.List.{list_any}
use Rattle.std.specs.Str.{bytes_eq}
use Rattle.slint_base.specs.declared.faults.Fault.{Fault}
use Rattle.slint_base.specs.declared.faults.Span.{Span}
use Rattle.slint_base.specs.declared.rules.Rule.{Rule}
use Rattle.slint_base.specs.declared.rules.Rule.TheVariants as rules
use Rattle.syntax_tree.specs.declared.words.Ident.{Ident}
use Rattle.syntax_tree.specs.declared.expressions.BinaryOp.{BinaryOp}
use Rattle.syntax_tree.specs.declared.expressions.BinaryOp.TheVariants as binary
use Rattle.syntax_tree.specs.declared.expressions.Expr.{Expr}
use Rattle.syntax_tree.specs.declared.expressions.Expr.TheOpen.{Expr-F, Suffix-F}
use Rattle.syntax_tree.specs.declared.expressions.FieldValue.{FieldValue, out-FieldValue}
use Rattle.syntax_tree.specs.declared.expressions.Operand.{Operand, out-Operand}
use Rattle.syntax_tree.specs.declared.expressions.PrefixOp.{PrefixOp}
use Rattle.syntax_tree.specs.declared.expressions.PrefixOp.TheVariants as prefixes
use Rattle.syntax_tree.specs.declared.expressions.Suffix.{Suffix, out-Suffix}
use Rattle.syntax_tree.specs.Spans.{ExprLayer, expr_span as source_span}
use Rattle.value_types.specs.declared.types.Ty.{Ty, out-Ty}
use Rattle.value_types.specs.declared.types.Ty.TheOpen as form
use Rattle.value_types.specs.declared.types.Ty.TheVariants as ty
use Rattle.value_types.specs.declared.values.Value.TheVariants as value
use Rattle.value_types.specs.CommonTypes.{common}
use Rattle.value_types.specs.Conversions.{Form}
use Rattle.element_tables.specs.declared.functions.Arguments.{Arguments}
use Rattle.element_tables.specs.declared.functions.Arguments.TheVariants as arguments
use Rattle.element_tables.specs.declared.functions.MathFunction.{MathFunction}
use Rattle.element_tables.specs.declared.operators.Op.{Op}
use Rattle.element_tables.specs.declared.operators.Op.TheVariants as op
use Rattle.element_tables.specs.declared.operators.PrefixOp.{PrefixOp as TypedPrefixOp}
use Rattle.element_tables.specs.declared.operators.PrefixOp.TheVariants as typed_prefixes
use Rattle.element_tables.specs.declared.operators.TyCode.{TyCode}
use Rattle.element_tables.specs.declared.typed_operators.Operands.{Operands}
use Rattle.element_tables.specs.Operands.{operands_of, plain_type}
use Rattle.element_tables.specs.Operators.{code_of, is_number, is_unit, prefixed}
use Rattle.element_tables.specs.Rows.{in_byte_order}
use Rattle.typed_tree.specs.declared.expressions.ExprKind.{ExprKind}
use Rattle.typed_tree.specs.declared.expressions.ExprKind.TheOpen.{ExprKind-F}
use Rattle.typed_tree.specs.declared.expressions.ExprKind.TheVariants as exprs
use Rattle.typed_tree.specs.declared.expressions.StepKind.TheVariants as step
use Rattle.typed_tree.specs.declared.expressions.TypedExpr.{TypedExpr}
use Rattle.typed_tree.specs.declared.expressions.TypedField.{TypedField, out-TypedField}
use Rattle.typed_tree.specs.declared.expressions.TypedOperand.{TypedOperand}
use Rattle.typed_tree.specs.BuiltIns.{built_in_ty}
use Rattle.typed_tree.specs.Scopes.{ScopeValue}
use Rattle.typed_tree.specs.Typed.{typed, typed_field, typed_operand, typed_step, part_of, expr_ty, expr_span, KindLayer, kind_layer}
use Rattle.expr_rules.specs.declared.judged.Denoted.{Denoted}
use Rattle.expr_rules.specs.declared.judged.Judged.{Judged}
use Rattle.expr_rules.specs.declared.judged.Judged.TheVariants as judged
use Rattle.name_lookup.specs.declared.meanings.Meaning.{Meaning}
use Rattle.name_lookup.specs.declared.meanings.Meaning.TheVariants as meaning
use Rattle.type_rules.specs.Conversions.{converts, same_type}
use Rattle.typed_tree.specs.Scopes.{Place}
use Rattle.expr_rules.specs.Denotations.{broken, standing, value_of, made, denoted, given, as_value, on_ok}
use Rattle.expr_rules.specs.Literals.{literal, number, text, image, typed_holes, pieces_of, filled}
use Rattle.name_lookup.specs.Names.{Lookup, looked_up, behind_point}
use Rattle.expr_rules.specs.Layers.{SuffixLayer}

-- fitting a value into its place

-- a value converted to a type, where it hasn't that type already
abbrev pub as_type : Ty → TypedExpr → TypedExpr
as_type t e = if same_type (expr_ty e) t then e else typed (exprs.Convert e) t (expr_span e)

abbrev pub fitted_form : Ty → Form → Span → TypedExpr → Result TypedExpr Fault
fitted_form t form.Void span e = Ok e
fitted_form t _ span e = if converts (expr_ty e) t then Ok (as_type t e) else broken rules.TypeMismatch span

abbrev pub fitted : Place → Span → TypedExpr → Result TypedExpr Fault
fitted None span e = Ok e
fitted (Some t) span e = fitted_form t (out-Ty t) span e

-- an expression at a place: a value, fitted
abbrev pub as_judged : Result TypedExpr Fault → Result Judged Fault
as_judged r = on_ok r (λ e. Ok (value_of e))

abbrev pub at_place : Place → Span → Judged → Result Judged Fault
at_place place span x = as_judged (on_ok (as_value span (denoted x).name (denoted x).meaning) (λ e. fitted place span e))

-- lists of parts

abbrev pub all_given : List Judged → List TypedExpr
all_given xs = map given xs

-- the type that values have in common, from the left
abbrev pub common_from : Option Ty → List TypedExpr → Option Ty
common_from t [] = t
common_from t (e ∷ es) = common_from (option_and_then (λ u. common u (expr_ty e)) t) es

abbrev pub common_of : List TypedExpr → Option Ty
common_of [] = None
common_of (e ∷ es) = common_from (Some (expr_ty e)) es

-- arrays

abbrev pub array_of : Span → List TypedExpr → Option Ty → Result Judged Fault
array_of span es None = broken rules.TypeMismatch span
array_of span es (Some t) = Ok (made (exprs.Array (map (as_type t) es)) (ty.Array t) span)

-- where an array is wanted the items have its items' type already
abbrev pub array_form : Form → Span → List TypedExpr → Result Judged Fault
array_form (form.Array item) span es = Ok (made (exprs.Array es) (ty.Array item) span)
array_form form.Void span es = Ok (made (exprs.Array es) ty.Void span)
array_form _ span es = array_of span es (common_of es)

abbrev pub array_at : Place → Span → List TypedExpr → Result Judged Fault
array_at None span es = array_of span es (common_of es)
array_at (Some t) span es = array_form (out-Ty t) span es

abbrev pub array : Place → Span → List TypedExpr → Result Judged Fault
array place span [] = Ok (made (exprs.Array []) ty.Empty span)
array place span (e ∷ es) = array_at place span (e ∷ es)

-- structs: each field has come to two things, its name and its value
abbrev pub fields_of : List FieldValue → List Judged → List TypedField
fields_of [] xs = []
fields_of (f ∷ fs) (name ∷ x ∷ xs) = typed_field (out-FieldValue f).name.name (given x) ∷ fields_of fs xs
fields_of (f ∷ fs) _ = []

abbrev pub field_type : TypedField → List ℕ × Ty
field_type f = ((out-TypedField f).name, expr_ty (out-TypedField f).value)

abbrev pub struct_type : List TypedField → Ty
struct_type fields = ty.Struct (in_byte_order (map field_type fields))

abbrev pub struct_form : Form → List TypedField → Ty
struct_form form.Void fields = ty.Void
struct_form _ fields = struct_type fields

abbrev pub struct_at : Place → List TypedField → Ty
struct_at None fields = struct_type fields
struct_at (Some t) fields = struct_form (out-Ty t) fields

-- a choice: of the type that is wanted, or of what the branches have in common
abbrev pub chosen_as : Span → TypedExpr → TypedExpr → TypedExpr → Option Ty → Result Judged Fault
chosen_as span c a b None = broken rules.TypeMismatch span
chosen_as span c a b (Some t) = Ok (made (exprs.Choice c (as_type t a) (as_type t b)) t span)

abbrev pub choice : Place → Span → TypedExpr → TypedExpr → TypedExpr → Result Judged Fault
choice None span c a b = chosen_as span c a b (common (expr_ty a) (expr_ty b))
choice (Some t) span c a b = Ok (made (exprs.Choice c a b) t span)

-- operators

abbrev pub prefix_op : PrefixOp → TypedPrefixOp
prefix_op prefixes.Not = typed_prefixes.Not
prefix_op prefixes.Minus = typed_prefixes.Minus
prefix_op prefixes.Plus = typed_prefixes.Plus

abbrev pub with_prefix : TypedPrefixOp → Span → TypedExpr → Option TyCode → Result Judged Fault
with_prefix o span e None = broken rules.NoOperator span
with_prefix o span e (Some code) = Ok (made (exprs.Prefix o (as_type (plain_type code) e)) (plain_type code) span)

abbrev pub prefix : PrefixOp → Span → TypedExpr → Result Judged Fault
prefix o span e = with_prefix (prefix_op o) span e (prefixed (prefix_op o) (code_of (out-Ty (expr_ty e))))

abbrev pub binary_op : BinaryOp → Op
binary_op binary.And = op.And
binary_op binary.Or = op.Or
binary_op binary.Equal = op.Equal
binary_op binary.NotEqual = op.NotEqual
binary_op binary.Less = op.Less
binary_op binary.LessEqual = op.LessEqual
binary_op binary.Greater = op.Greater
binary_op binary.GreaterEqual = op.GreaterEqual
binary_op binary.Add = op.Add
binary_op binary.Sub = op.Sub
binary_op binary.Mul = op.Mul
binary_op binary.Div = op.Div

-- from the first token of one stretch to the last one of another
abbrev pub joined : Span → Span → Span
joined a b = record { file = a.file; start = a.start; end = b.end }

-- whether an expression is a chain of operands
abbrev pub is_chain : KindLayer → Bool
is_chain (ExprKind-F.Chain first operands) = true
is_chain layer = false

-- one more operand of a chain; a first operand that is a chain itself, in parentheses, stays one operand
abbrev pub longer_layer : TypedExpr → KindLayer → TypedOperand → ExprKind
longer_layer e (ExprKind-F.Chain first operands) o = exprs.Chain first (operands ++ o ∷ [])
longer_layer e layer o = exprs.Chain e (o ∷ [])

abbrev pub longer : Bool → TypedExpr → TypedOperand → ExprKind
longer false e o = exprs.Chain e (o ∷ [])
longer true e o = longer_layer e (kind_layer e) o

abbrev pub operated : Bool → Op → Span → TypedExpr → TypedExpr → Result Operands Rule → Result TypedExpr Fault
operated goes_on o span a b (Err rule) = broken rule span
operated goes_on o span a b (Ok found) = Ok (typed (longer goes_on a (typed_operand o found.left (as_type found.right b) found.result)) found.result span)

-- an operation on two values, of which the first one may be a chain that goes on
abbrev pub operation_on : Bool → Op → Span → TypedExpr → TypedExpr → Result TypedExpr Fault
operation_on goes_on o span a b = operated goes_on o span a b (operands_of o (expr_ty a) (expr_ty b))

-- names and what stands behind points

abbrev pub found_at : Span → Span → Bool → Lookup → Result Judged Fault
found_at span name plain None = broken rules.UnknownName name
found_at span name plain (Some (Err rule)) = broken rule name
found_at span name plain (Some (Ok m)) = Ok (standing m name plain)

abbrev pub name_at : ScopeValue → Place → Ident → Result Judged Fault
name_at s place ident = found_at ident.span ident.span true (looked_up s place ident.name ident.span)

-- a part of a value goes back to the member that the value does; anything else has a name of its own here
abbrev pub name_behind : Meaning → Span → Span → Span
name_behind (meaning.Value e) old new = old
name_behind _ old new = new

-- a method's name is its own
abbrev pub name_of_part : Meaning → Span → Span → Span
name_of_part (meaning.Method m e) old new = new
name_of_part _ old new = old

abbrev pub found_behind : Denoted → Span → Lookup → Result Judged Fault
found_behind d name None = broken rules.UnknownName name
found_behind d name (Some (Err rule)) = broken rule name
found_behind d name (Some (Ok m)) = Ok (standing m (name_of_part m (name_behind d.meaning d.name name) name) d.is_plain)

-- what a callback or function isn't before it is called
abbrev pub has_members : Meaning → Bool
has_members (meaning.Callable callee signature) = false
has_members (meaning.Math function) = false
has_members (meaning.Method m e) = false
has_members _ = true

abbrev pub member : ScopeValue → Denoted → Ident → Span → Result Judged Fault
member s d ident span = if has_members d.meaning then found_behind d ident.span (behind_point s d.is_plain d.meaning ident.name span) else broken rules.NotCallable d.name

-- items of arrays

abbrev pub item_layer : Bool → TypedExpr → KindLayer → TypedExpr → Ty → Span → TypedExpr
item_layer true e (ExprKind-F.Property member) i t span = typed (exprs.PropertyItem member i) t span
item_layer plain e layer i t span = part_of e (typed_step (step.ToItem i) t) span

-- the type of an array's items; `[]` counts as an array of ints
abbrev pub items_of : Form → Option Ty
items_of (form.Array item) = Some item
items_of form.Empty = Some ty.Int
items_of _ = None

abbrev pub item_of : Denoted → TypedExpr → TypedExpr → Span → Option Ty → Result Judged Fault
item_of d e i span None = broken rules.TypeMismatch span
item_of d e i span (Some t) = Ok (standing (meaning.Value (item_layer d.is_plain e (kind_layer e) i t span)) d.name false)

abbrev pub index : Denoted → TypedExpr → Span → Span → Result Judged Fault
index d i before span = on_ok (as_value before d.name d.meaning) (λ e. item_of d e i span (items_of (out-Ty (expr_ty e))))

-- calls

-- of the built-in functions of alike values percent counts as float, and zeros alone as int
abbrev pub alike_form : Form → Ty → Ty
alike_form form.Percent t = ty.Float
alike_form form.Zero t = ty.Int
alike_form _ t = t

abbrev pub is_quantity : Ty → Bool
is_quantity t = is_number (code_of (out-Ty t)) || is_unit (code_of (out-Ty t))

abbrev pub alike_type : Option Ty → Option Ty
alike_type None = None
alike_type (Some t) = if is_quantity (alike_form (out-Ty t) t) then Some (alike_form (out-Ty t) t) else None

abbrev pub alike : MathFunction → Span → List TypedExpr → Option Ty → Result Judged Fault
alike f span es None = broken rules.TypeMismatch span
alike f span es (Some t) = Ok (made (exprs.Math f (map (as_type t) es)) t span)

abbrev pub counted : {A : Type 0} → ℕ → List A → Span → Result Judged Fault → Result Judged Fault
counted n xs span r = if length xs == n then r else broken rules.ArgCount span

abbrev pub math_call : MathFunction → Arguments → Span → List TypedExpr → Result Judged Fault
math_call f (arguments.Alike count) span es = counted count es span (alike f span es (alike_type (common_of es)))
math_call f arguments.Rounded span es = counted 1 es span (Ok (made (exprs.Math f es) ty.Int span))

abbrev pub call : Meaning → Span → List TypedExpr → Result Judged Fault
call (meaning.Callable callee signature) span es = counted (length signature.parameters) es span (Ok (made (exprs.Call callee es) signature.result span))
call (meaning.Math function) span es = math_call function.function function.arguments span es
call (meaning.Method m e) span es = counted 0 es span (Ok (made (exprs.Ask m.kind e) (built_in_ty m.result) span))
call _ span es = broken rules.NotCallable span

-- expressions, form by form

abbrev pub translated : Span → List Judged → List (List ℕ) → Result Judged Fault
translated span xs [] = broken rules.ArgCount span
translated span xs (first ∷ pieces) = counted (length pieces) xs span (Ok (made (exprs.Template first (filled pieces xs)) ty.Str span))

-- what is in parentheses is what it is, but no plain path
abbrev pub in_parentheses : Denoted → Judged
in_parentheses d = standing d.meaning d.name false

-- nodes of these forms have just so many parts
abbrev pub of_one : (Judged → Result Judged Fault) → List Judged → Result Judged Fault
of_one go (x ∷ []) = go x
of_one go xs = Ok judged.Fresh

abbrev pub of_two : (Judged → Judged → Result Judged Fault) → List Judged → Result Judged Fault
of_two go (x ∷ y ∷ []) = go x y
of_two go xs = Ok judged.Fresh

abbrev pub of_three : (Judged → Judged → Judged → Result Judged Fault) → List Judged → Result Judged Fault
of_three go (x ∷ y ∷ z ∷ []) = go x y z
of_three go xs = Ok judged.Fresh

abbrev pub form_own : ScopeValue → Place → ExprLayer → List Judged → Result Judged Fault
form_own s place (Expr-F.Number n span) xs = Ok (value_of (number n span))
form_own s place (Expr-F.Colour c span) xs = Ok (value_of (literal (value.Color c) ty.Color span))
form_own s place (Expr-F.Text t span) xs = Ok (value_of (text t span))
form_own s place (Expr-F.Template t holes span) xs = Ok (made (exprs.Template t (typed_holes holes xs)) ty.Str span)
form_own s place (Expr-F.Name ident span) xs = name_at s place ident
form_own s place (Expr-F.Paren e span) xs = of_one (λ x. Ok (in_parentheses (denoted x))) xs
form_own s place (Expr-F.Array es span) xs = array place span (all_given xs)
form_own s place (Expr-F.Struct fs span) xs = Ok (made (exprs.Struct (fields_of fs xs)) (struct_at place (fields_of fs xs)) span)
form_own s place (Expr-F.ImageUrl path span) xs = Ok (value_of (image path.text span))
form_own s place (Expr-F.Tr context t es span) xs = translated span xs (pieces_of t.text)
form_own s place (Expr-F.Postfix e ss span) xs = of_one (λ x. Ok x) xs
form_own s place (Expr-F.Prefix o e span) xs = of_one (λ x. prefix o span (given x)) xs
form_own s place (Expr-F.Chain e os span) xs = of_one (λ x. Ok x) xs
form_own s place (Expr-F.Choice c a b span) xs = of_three (λ x y z. choice place span (given x) (given y) (given z)) xs

-- the stretch of an expression with some of the suffixes behind it
abbrev pub suffix_end : Span → SuffixLayer → Span
suffix_end span (Suffix-F.Member name) = joined span name.span
suffix_end span (Suffix-F.Call es stretch) = joined span stretch
suffix_end span (Suffix-F.Index i stretch) = joined span stretch

abbrev pub suffixed_span : Expr → List Suffix → Span
suffixed_span e [] = source_span e
suffixed_span e (s ∷ before) = suffix_end (source_span e) (out-Suffix s)

abbrev pub suffix_own : ScopeValue → Expr → List Suffix → SuffixLayer → Span → List Judged → List Judged → Result Judged Fault
suffix_own s e before (Suffix-F.Member name) span xs ys = of_one (λ x. member s (denoted x) name span) xs
suffix_own s e before (Suffix-F.Call es stretch) span xs ys = of_one (λ x. call (denoted x).meaning span (all_given ys)) xs
suffix_own s e before (Suffix-F.Index i stretch) span xs ys = of_two (λ x y. index (denoted x) (given y) (suffixed_span e before) span) xs

abbrev pub suffixed_own : ScopeValue → Expr → List Suffix → List Judged → List Judged → Result Judged Fault
suffixed_own s e [] xs ys = of_one (λ x. Ok x) xs
suffixed_own s e (suffix ∷ before) xs ys = suffix_own s e before (out-Suffix suffix) (suffixed_span e (suffix ∷ before)) xs ys

abbrev pub goes_on : List Operand → Bool
goes_on [] = false
goes_on (o ∷ before) = true

abbrev pub chained_own : Expr → List Operand → List Judged → Result Judged Fault
chained_own e [] xs = of_one (λ x. Ok x) xs
chained_own e (o ∷ before) xs = of_two (λ x y. as_judged (operation_on (goes_on before) (binary_op (out-Operand o).op) (joined (source_span e) (source_span (out-Operand o).right)) (given x) (given y))) xs

-- a field's name is new
abbrev pub field_name_own : Ident → List (List ℕ) → Result Judged Fault
field_name_own ident before = if list_any (λ name. bytes_eq name ident.name) before then broken rules.NameTwice ident.span else Ok judged.Fresh

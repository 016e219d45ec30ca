-- What expressions and blocks break.
use Rattle.std.specs.List.{list_any}
use Rattle.std.specs.Str.{bytes_eq}
use Rattle.std.proofs.Common.{if◌then◌else◌, ◌≡◌, ℕ, Bool, true, false, ◌==◌, List, [], ◌∷◌, length, Option, Some, None, Result, Ok, Err, refl}
use Rattle.slint_base.specs.declared.faults.Fault.{Fault}
use Rattle.slint_base.specs.declared.faults.Span.{Span}
use Rattle.slint_base.specs.declared.rules.Rule.{Rule}
use Rattle.slint_base.specs.declared.rules.Rule.TheVariants as rule
use Rattle.syntax_tree.specs.declared.words.Ident.{Ident}
use Rattle.syntax_tree.specs.declared.expressions.Expr.{Expr, out-Expr}
use Rattle.syntax_tree.specs.declared.expressions.Expr.TheOpen.{Expr-F, Suffix-F}
use Rattle.syntax_tree.specs.declared.expressions.Operand.{Operand, out-Operand}
use Rattle.syntax_tree.specs.declared.expressions.PrefixOp.{PrefixOp}
use Rattle.syntax_tree.specs.declared.expressions.Suffix.{Suffix, out-Suffix}
use Rattle.syntax_tree.specs.declared.statements.AssignOp.{AssignOp}
use Rattle.syntax_tree.specs.declared.statements.Else.{out-Else}
use Rattle.syntax_tree.specs.declared.statements.Else.TheOpen.{Else-F, Stmt-F}
use Rattle.syntax_tree.specs.declared.statements.Stmt.{Stmt, out-Stmt}
use Rattle.syntax_tree.specs.Spans.{ExprLayer, expr_span as source_span}
use Rattle.value_types.specs.declared.types.Ty.{Ty, out-Ty}
use Rattle.value_types.specs.declared.types.Ty.TheOpen as form
use Rattle.value_types.specs.declared.types.Ty.TheVariants as ty
use Rattle.value_types.specs.CommonTypes.{common}
use Rattle.value_types.specs.Conversions.{Form}
use Rattle.element_tables.specs.declared.functions.Arguments.{Arguments}
use Rattle.element_tables.specs.declared.functions.Arguments.TheVariants as arguments
use Rattle.element_tables.specs.declared.functions.MathFunction.{MathFunction}
use Rattle.element_tables.specs.declared.operators.Op.{Op}
use Rattle.element_tables.specs.declared.operators.PrefixOp.{PrefixOp as TypedPrefixOp}
use Rattle.element_tables.specs.declared.operators.TyCode.{TyCode}
use Rattle.element_tables.specs.declared.typed_operators.Operands.{Operands}
use Rattle.element_tables.specs.Operands.{operands_of}
use Rattle.element_tables.specs.Operators.{code_of, prefixed}
use Rattle.typed_tree.specs.declared.expressions.ExprKind.TheVariants as exprs
use Rattle.typed_tree.specs.declared.expressions.TypedExpr.{TypedExpr}
use Rattle.typed_tree.specs.declared.statements.Target.{Target}
use Rattle.typed_tree.specs.BuiltIns.{built_in_ty}
use Rattle.typed_tree.specs.Scopes.{Place, ScopeValue}
use Rattle.typed_tree.specs.Typed.{expr_ty}
use Rattle.name_lookup.specs.declared.meanings.Meaning.{Meaning}
use Rattle.name_lookup.specs.declared.meanings.Meaning.TheVariants as meaning
use Rattle.name_lookup.specs.Names.{Lookup, behind_point, looked_up}
use Rattle.type_rules.specs.Conversions.{converts}
use Rattle.expr_rules.specs.declared.judged.Denoted.{Denoted}
use Rattle.expr_rules.specs.declared.judged.Judged.{Judged}
use Rattle.expr_rules.specs.declared.judged.Judged.TheVariants as judged
use Rattle.expr_rules.specs.Denotations.{as_value, broken, denoted, given, made, on_ok, value_of}
use Rattle.expr_rules.specs.Layers.{ElseLayer, StmtLayer, SuffixLayer}
use Rattle.expr_rules.specs.Literals.{filled, pieces_of}
use Rattle.expr_rules.specs.Own.{alike, alike_type, all_given, array, array_at, array_form, array_of, as_judged, as_type, at_place, binary_op, call, chained_own, choice, chosen_as, common_of, counted, field_name_own, fitted, fitted_form, form_own, found_at, found_behind, goes_on, has_members, index, item_of, items_of, joined, math_call, member, name_at, of_one, of_three, of_two, operated, operation_on, prefix, prefix_op, suffix_own, suffixed_own, suffixed_span, translated, with_prefix}
use Rattle.expr_rules.specs.OwnBlocks.{assigned_from, assigned_own, assigned_target, assigned_value, assignment, body_own, changing, else_if_own, if_own, is_callable, lacks_value, may_assign, otherwise_own, return_own, statement_own}
use Rattle.expr_types.specs.Judgement.{FaultAmong, FaultIn, Rules, here, in_later, in_part, first, behind}
use Rattle.expr_types.specs.Nodes.{At, Assigned, Body, Braces, Chained, Denotes, FieldName, Node, Otherwise, Statement, Suffixed}
use Rattle.expr_types.specs.Typing.{own, typing}
use Rattle.source_faults.proofs.Others.{IsOther, is_missing}
use Rattle.source_faults.proofs.Results.{OrFault, OrLost, OrRule, breach, fault, fine, going_on, met, other_if}
use Rattle.source_faults.proofs.Names.{behind_other, looked_up_other, operands_other}

pub or_broken : {A : Type 0} (b : Bool) (a : A) (r : Rule) (span : Span) → is_missing r ≡ false → OrFault (if b then Ok a else broken r span)
or_broken true a rule span p = fine
or_broken false a rule span p = fault p

pub or_own : {A : Type 0} (b : Bool) (r : Rule) (span : Span) (x : Result A Fault) → is_missing r ≡ false → OrFault x → OrFault (if b then broken r span else x)
or_own true rule span r p q = fault p
or_own false rule span r p q = q

pub own_or : {A : Type 0} (b : Bool) (r : Rule) (span : Span) (x : Result A Fault) → is_missing r ≡ false → OrFault x → OrFault (if b then x else broken r span)
own_or true rule span r p q = q
own_or false rule span r p q = fault p

-- ---- values at places

a_value : (span name : Span) (m : Meaning) → OrFault (as_value span name m)
a_value span name (meaning.Value e) = fine
a_value span name _ = fault refl

fits_form : (t : Ty) (f : Form) (span : Span) (e : TypedExpr) → OrFault (fitted_form t f span e)
fits_form t form.Void span e = fine
fits_form t _ span e = or_broken (converts (expr_ty e) t) (as_type t e) rule.TypeMismatch span refl

fits : (place : Place) (span : Span) (e : TypedExpr) → OrFault (fitted place span e)
fits None span e = fine
fits (Some t) span e = fits_form t (out-Ty t) span e

judges : (r : Result TypedExpr Fault) → OrFault r → OrFault (as_judged r)
judges r p = going_on r (λ e. Ok (value_of e)) p (λ e. fine)

at : (place : Place) (span : Span) (x : Judged) → OrFault (at_place place span x)
at place span x = judges (on_ok (as_value span (denoted x).name (denoted x).meaning) (λ e. fitted place span e))
    (going_on (as_value span (denoted x).name (denoted x).meaning) (λ e. fitted place span e) (a_value span (denoted x).name (denoted x).meaning) (λ e. fits place span e))

-- ---- expressions

of_items : (span : Span) (es : List TypedExpr) (t : Option Ty) → OrFault (array_of span es t)
of_items span es None = fault refl
of_items span es (Some t) = fine

in_array_form : (f : Form) (span : Span) (es : List TypedExpr) → OrFault (array_form f span es)
in_array_form (form.Array item) span es = fine
in_array_form form.Void span es = fine
in_array_form _ span es = of_items span es (common_of es)

in_array_at : (place : Place) (span : Span) (es : List TypedExpr) → OrFault (array_at place span es)
in_array_at None span es = of_items span es (common_of es)
in_array_at (Some t) span es = in_array_form (out-Ty t) span es

in_array : (place : Place) (span : Span) (es : List TypedExpr) → OrFault (array place span es)
in_array place span [] = fine
in_array place span (e ∷ es) = in_array_at place span (e ∷ es)

as_chosen : (span : Span) (c a b : TypedExpr) (t : Option Ty) → OrFault (chosen_as span c a b t)
as_chosen span c a b None = fault refl
as_chosen span c a b (Some t) = fine

in_choice : (place : Place) (span : Span) (c a b : TypedExpr) → OrFault (choice place span c a b)
in_choice None span c a b = as_chosen span c a b (common (expr_ty a) (expr_ty b))
in_choice (Some t) span c a b = fine

prefixes : (o : TypedPrefixOp) (span : Span) (e : TypedExpr) (code : Option TyCode) → OrFault (with_prefix o span e code)
prefixes o span e None = fault refl
prefixes o span e (Some code) = fine

in_prefix : (o : PrefixOp) (span : Span) (e : TypedExpr) → OrFault (prefix o span e)
in_prefix o span e = prefixes (prefix_op o) span e (prefixed (prefix_op o) (code_of (out-Ty (expr_ty e))))

operates : (on : Bool) (o : Op) (span : Span) (a b : TypedExpr) (r : Result Operands Rule) → OrRule r → OrFault (operated on o span a b r)
operates on o span a b (Ok found) p = fine
operates on o span a b (Err r) (breach p) = fault p

in_operation : (on : Bool) (o : Op) (span : Span) (a b : TypedExpr) → OrFault (operation_on on o span a b)
in_operation on o span a b = operates on o span a b (operands_of o (expr_ty a) (expr_ty b)) (operands_other o (expr_ty a) (expr_ty b))

finds : (span name : Span) (plain : Bool) (m : Lookup) → OrLost m → OrFault (found_at span name plain m)
finds span name plain None p = fault refl
finds span name plain (Some (Ok m)) p = fine
finds span name plain (Some (Err r)) (met (breach p)) = fault p

finds_behind : (d : Denoted) (name : Span) (m : Lookup) → OrLost m → OrFault (found_behind d name m)
finds_behind d name None p = fault refl
finds_behind d name (Some (Ok m)) p = fine
finds_behind d name (Some (Err r)) (met (breach p)) = fault p

in_name : (s : ScopeValue) (place : Place) (ident : Ident) → OrFault (name_at s place ident)
in_name s place ident = finds ident.span ident.span true (looked_up s place ident.name ident.span) (looked_up_other s place ident.name ident.span)

in_member : (s : ScopeValue) (d : Denoted) (ident : Ident) (span : Span) → OrFault (member s d ident span)
in_member s d ident span = own_or (has_members d.meaning) rule.NotCallable d.name (found_behind d ident.span (behind_point s d.is_plain d.meaning ident.name span)) refl
    (finds_behind d ident.span (behind_point s d.is_plain d.meaning ident.name span) (behind_other s d.is_plain d.meaning ident.name span))

an_item : (d : Denoted) (e i : TypedExpr) (span : Span) (t : Option Ty) → OrFault (item_of d e i span t)
an_item d e i span None = fault refl
an_item d e i span (Some t) = fine

in_index : (d : Denoted) (i : TypedExpr) (before span : Span) → OrFault (index d i before span)
in_index d i before span = going_on (as_value before d.name d.meaning) (λ e. item_of d e i span (items_of (out-Ty (expr_ty e)))) (a_value before d.name d.meaning)
    (λ e. an_item d e i span (items_of (out-Ty (expr_ty e))))

counts : {A : Type 0} (n : ℕ) (xs : List A) (span : Span) (r : Result Judged Fault) → OrFault r → OrFault (counted n xs span r)
counts n xs span r p = own_or (length xs == n) rule.ArgCount span r refl p

likens : (f : MathFunction) (span : Span) (es : List TypedExpr) (t : Option Ty) → OrFault (alike f span es t)
likens f span es None = fault refl
likens f span es (Some t) = fine

in_math : (f : MathFunction) (args : Arguments) (span : Span) (es : List TypedExpr) → OrFault (math_call f args span es)
in_math f (arguments.Alike count) span es = counts count es span (alike f span es (alike_type (common_of es))) (likens f span es (alike_type (common_of es)))
in_math f arguments.Rounded span es = counts 1 es span (Ok (made (exprs.Math f es) ty.Int span)) fine

in_call : (m : Meaning) (span : Span) (es : List TypedExpr) → OrFault (call m span es)
in_call (meaning.Callable callee signature) span es = counts (length signature.parameters) es span (Ok (made (exprs.Call callee es) signature.result span)) fine
in_call (meaning.Math function) span es = in_math function.function function.arguments span es
in_call (meaning.Method m e) span es = counts 0 es span (Ok (made (exprs.Ask m.kind e) (built_in_ty m.result) span)) fine
in_call _ span es = fault refl

translates : (span : Span) (xs : List Judged) (pieces : List (List ℕ)) → OrFault (translated span xs pieces)
translates span xs [] = fault refl
translates span xs (piece ∷ pieces) = counts (length pieces) xs span (Ok (made (exprs.Template piece (filled pieces xs)) ty.Str span)) fine

one_part : (go : Judged → Result Judged Fault) → ((x : Judged) → OrFault (go x)) → (xs : List Judged) → OrFault (of_one go xs)
one_part go p [] = fine
one_part go p (x ∷ []) = p x
one_part go p (x ∷ y ∷ xs) = fine

two_parts : (go : Judged → Judged → Result Judged Fault) → ((x y : Judged) → OrFault (go x y)) → (xs : List Judged) → OrFault (of_two go xs)
two_parts go p [] = fine
two_parts go p (x ∷ []) = fine
two_parts go p (x ∷ y ∷ []) = p x y
two_parts go p (x ∷ y ∷ z ∷ xs) = fine

three_parts : (go : Judged → Judged → Judged → Result Judged Fault) → ((x y z : Judged) → OrFault (go x y z)) → (xs : List Judged) → OrFault (of_three go xs)
three_parts go p [] = fine
three_parts go p (x ∷ []) = fine
three_parts go p (x ∷ y ∷ []) = fine
three_parts go p (x ∷ y ∷ z ∷ []) = p x y z
three_parts go p (x ∷ y ∷ z ∷ u ∷ xs) = fine

in_form : (s : ScopeValue) (place : Place) (layer : ExprLayer) (xs : List Judged) → OrFault (form_own s place layer xs)
in_form s place (Expr-F.Number n span) xs = fine
in_form s place (Expr-F.Colour c span) xs = fine
in_form s place (Expr-F.Text t span) xs = fine
in_form s place (Expr-F.Template t holes span) xs = fine
in_form s place (Expr-F.Name ident span) xs = in_name s place ident
in_form s place (Expr-F.Paren e span) xs = one_part _ (λ x. fine) xs
in_form s place (Expr-F.Array es span) xs = in_array place span (all_given xs)
in_form s place (Expr-F.Struct fs span) xs = fine
in_form s place (Expr-F.ImageUrl path span) xs = fine
in_form s place (Expr-F.Tr context t es span) xs = translates span xs (pieces_of t.text)
in_form s place (Expr-F.Postfix e ss span) xs = one_part (λ x. Ok x) (λ x. fine) xs
in_form s place (Expr-F.Prefix o e span) xs = one_part (λ x. prefix o span (given x)) (λ x. in_prefix o span (given x)) xs
in_form s place (Expr-F.Chain e os span) xs = one_part (λ x. Ok x) (λ x. fine) xs
in_form s place (Expr-F.Choice c a b span) xs = three_parts (λ x y z. choice place span (given x) (given y) (given z)) (λ x y z. in_choice place span (given x) (given y) (given z)) xs

in_suffix : (s : ScopeValue) (e : Expr) (before : List Suffix) (layer : SuffixLayer) (span : Span) (xs ys : List Judged) → OrFault (suffix_own s e before layer span xs ys)
in_suffix s e before (Suffix-F.Member name) span xs ys = one_part (λ x. member s (denoted x) name span) (λ x. in_member s (denoted x) name span) xs
in_suffix s e before (Suffix-F.Call es stretch) span xs ys = one_part (λ x. call (denoted x).meaning span (all_given ys)) (λ x. in_call (denoted x).meaning span (all_given ys)) xs
in_suffix s e before (Suffix-F.Index i stretch) span xs ys = two_parts (λ x y. index (denoted x) (given y) (suffixed_span e before) span) (λ x y. in_index (denoted x) (given y) (suffixed_span e before) span) xs

in_suffixed : (s : ScopeValue) (e : Expr) (suffixes : List Suffix) (xs ys : List Judged) → OrFault (suffixed_own s e suffixes xs ys)
in_suffixed s e [] xs ys = one_part (λ x. Ok x) (λ x. fine) xs
in_suffixed s e (suffix ∷ before) xs ys = in_suffix s e before (out-Suffix suffix) (suffixed_span e (suffix ∷ before)) xs ys

in_chained : (e : Expr) (operands : List Operand) (xs : List Judged) → OrFault (chained_own e operands xs)
in_chained e [] xs = one_part (λ x. Ok x) (λ x. fine) xs
in_chained e (o ∷ before) xs = two_parts _ (λ x y. judges (operation_on (goes_on before) (binary_op (out-Operand o).op) (joined (source_span e) (source_span (out-Operand o).right)) (given x) (given y))
    (in_operation (goes_on before) (binary_op (out-Operand o).op) (joined (source_span e) (source_span (out-Operand o).right)) (given x) (given y))) xs

in_field_name : (ident : Ident) (before : List (List ℕ)) → OrFault (field_name_own ident before)
in_field_name ident before = or_own (list_any (λ name. bytes_eq name ident.name) before) rule.NameTwice ident.span (Ok judged.Fresh) refl fine

-- ---- blocks

in_assigned : (s : ScopeValue) (d : Denoted) → OrFault (assigned_own s d)
in_assigned s d = or_own (is_callable d.meaning) rule.NotCallable d.name (if may_assign s d.meaning then Ok (judged.Denoted d) else broken rule.Visibility d.name) refl
    (or_broken (may_assign s d.meaning) (judged.Denoted d) rule.Visibility d.name refl)

in_assigned_value : (o : Option Op) (span : Span) (left side : TypedExpr) → OrFault (assigned_value o span left side)
in_assigned_value None span left side = fine
in_assigned_value (Some o) span left side = going_on (operation_on false o span left side) (λ e. fitted (Some (expr_ty left)) span e) (in_operation false o span left side) (λ e. fits (Some (expr_ty left)) span e)

in_assignment : (o : Option Op) (span : Span) (x y : Judged) (t : Option Target) → OrFault (assignment o span x y t)
in_assignment o span x y None = fault refl
in_assignment o span x y (Some target) = going_on (assigned_value o span (given x) (given y)) _ (in_assigned_value o span (given x) (given y)) (λ e. fine)

from_sides : (s : ScopeValue) (o : AssignOp) (span : Span) (xs ys : List Judged) → OrFault (assigned_from s o span xs ys)
from_sides s o span [] ys = fine
from_sides s o span (x ∷ []) [] = fine
from_sides s o span (x ∷ []) (y ∷ []) = in_assignment (changing o) span x y (assigned_target s (denoted x).meaning)
from_sides s o span (x ∷ []) (y ∷ z ∷ ys) = fine
from_sides s o span (x ∷ y ∷ []) [] = in_assignment (changing o) span x y (assigned_target s (denoted x).meaning)
from_sides s o span (x ∷ y ∷ []) (z ∷ ys) = fine
from_sides s o span (x ∷ y ∷ z ∷ xs) ys = fine

in_if : (span : Span) (xs : List Judged) → OrFault (if_own span xs)
in_if span [] = fine
in_if span (c ∷ []) = fine
in_if span (c ∷ b ∷ []) = fine
in_if span (c ∷ b ∷ e ∷ []) = fine
in_if span (c ∷ b ∷ e ∷ x ∷ xs) = fine

in_else_if : (span : Span) (xs : List Judged) → OrFault (else_if_own span xs)
in_else_if span [] = fine
in_else_if span (c ∷ []) = fine
in_else_if span (c ∷ b ∷ []) = fine
in_else_if span (c ∷ b ∷ e ∷ []) = fine
in_else_if span (c ∷ b ∷ e ∷ x ∷ xs) = fine

in_otherwise : (layer : ElseLayer) (xs : List Judged) → OrFault (otherwise_own layer xs)
in_otherwise Else-F.Nothing xs = fine
in_otherwise (Else-F.ElseIf condition block otherwise span) xs = in_else_if span xs
in_otherwise (Else-F.ElseBlock block) xs = one_part (λ x. Ok x) (λ x. fine) xs

in_return : (span : Span) (xs : List Judged) → OrFault (return_own span xs)
in_return span [] = fine
in_return span (x ∷ xs) = fine

in_statement : (s : ScopeValue) (t : Ty) (ends : Bool) (layer : StmtLayer) (xs ys : List Judged) → OrFault (statement_own s t ends layer xs ys)
in_statement s t ends (Stmt-F.If condition block otherwise span) xs ys = in_if span xs
in_statement s t ends (Stmt-F.Return value span) xs ys = in_return span xs
in_statement s t ends (Stmt-F.Empty span) xs ys = fine
in_statement s t ends (Stmt-F.Expr e) xs ys = one_part _ (λ x. fine) xs
in_statement s t ends (Stmt-F.Assign left o side span) xs ys = from_sides s o span xs ys

in_block : (t : Ty) (stmts : List Stmt) (span : Span) (xs : List Judged) → OrFault (body_own t stmts span xs)
in_block t stmts span xs = or_own (lacks_value (out-Ty t) stmts) rule.TypeMismatch span (of_one (λ x. Ok x) xs) refl (one_part (λ x. Ok x) (λ x. fine) xs)

-- ---- nodes

in_node : (s : ScopeValue) (n : Node) (xs ys : List Judged) → OrFault (own s n xs ys)
in_node s (At place e) xs ys = one_part (λ x. at_place place (source_span e) x) (λ x. at place (source_span e) x) xs
in_node s (Denotes place e) xs ys = in_form s place (out-Expr e) xs
in_node s (Suffixed e suffixes) xs ys = in_suffixed s e suffixes xs ys
in_node s (Chained e operands) xs ys = in_chained e operands xs
in_node s (FieldName ident before) xs ys = in_field_name ident before
in_node s (Assigned e) xs ys = one_part (λ x. assigned_own s (denoted x)) (λ x. in_assigned s (denoted x)) xs
in_node s (Body t stmts span) xs ys = in_block t stmts span xs
in_node s (Braces t ends stmts span) xs ys = fine
in_node s (Otherwise t ends otherwise) xs ys = in_otherwise (out-Else otherwise) xs
in_node s (Statement t ends stmt) xs ys = in_statement s t ends (out-Stmt stmt) xs ys

module _ (rules : Rules Node Judged Fault) (other : (n : Node) (xs ys : List Judged) → OrFault (rules.own n xs ys)) where
  mutual
    in_rules : (n : Node) (f : Fault) → FaultIn Node Judged Fault rules n f → IsOther f
    in_rules n f (here {xs = xs} {ys = ys} p q e) = other_if (rules.own n xs ys) f (other n xs ys) e
    in_rules n f (in_part p) = among_rules _ f p
    in_rules n f (in_later p q) = among_rules _ f q

    among_rules : (ns : List Node) (f : Fault) → FaultAmong Node Judged Fault rules ns f → IsOther f
    among_rules [] f p = elim p [ ]
    among_rules (n ∷ ns) f (first p) = in_rules n f p
    among_rules (n ∷ ns) f (behind p) = among_rules ns f p

pub node_other : (s : ScopeValue) (n : Node) (f : Fault) → FaultIn Node Judged Fault (typing s) n f → IsOther f
node_other s n f p = in_rules (typing s) (in_node s) n f p

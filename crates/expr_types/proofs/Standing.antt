-- What nodes of expressions and of blocks come to: what an expression stands for, a value, a block.
use Rattle.std.proofs.Common.{◌≡◌, ℕ, Bool, true, false, ◌==◌, if◌then◌else◌, List, [], ◌∷◌, length, Option, Some, None, Result, Ok, Err, refl, sym, subst}
use Rattle.slint_base.specs.declared.faults.Fault.{Fault}
use Rattle.slint_base.specs.declared.faults.Span.{Span}
use Rattle.syntax_tree.specs.declared.expressions.Expr.{Expr, out-Expr}
use Rattle.syntax_tree.specs.declared.expressions.Expr.TheOpen.{Expr-F, Suffix-F}
use Rattle.syntax_tree.specs.declared.expressions.Operand.{Operand}
use Rattle.syntax_tree.specs.declared.expressions.Suffix.{Suffix, out-Suffix}
use Rattle.syntax_tree.specs.declared.statements.Stmt.{Stmt}
use Rattle.syntax_tree.specs.Spans.{ExprLayer}
use Rattle.value_types.specs.declared.types.Ty.{Ty, out-Ty}
use Rattle.value_types.specs.declared.types.Ty.TheOpen as form
use Rattle.value_types.specs.CommonTypes.{common}
use Rattle.value_types.specs.Conversions.{Form}
use Rattle.element_tables.specs.declared.functions.Arguments.{Arguments}
use Rattle.element_tables.specs.declared.functions.Arguments.TheVariants as arguments
use Rattle.element_tables.specs.declared.functions.MathFunction.{MathFunction}
use Rattle.element_tables.specs.declared.operators.PrefixOp.{PrefixOp as TypedPrefixOp}
use Rattle.element_tables.specs.declared.operators.TyCode.{TyCode}
use Rattle.element_tables.specs.Operators.{code_of, prefixed}
use Rattle.typed_tree.specs.declared.expressions.TypedExpr.{TypedExpr}
use Rattle.typed_tree.specs.Scopes.{Place, ScopeValue}
use Rattle.typed_tree.specs.Typed.{expr_ty}
use Rattle.name_lookup.specs.declared.meanings.Meaning.{Meaning}
use Rattle.name_lookup.specs.declared.meanings.Meaning.TheVariants as meaning
use Rattle.name_lookup.specs.Names.{Lookup, looked_up, behind_point}
use Rattle.expr_rules.specs.declared.judged.Denoted.{Denoted}
use Rattle.expr_rules.specs.declared.judged.Judged.{Judged}
use Rattle.expr_rules.specs.Denotations.{denoted, given, value_of, as_value, on_ok}
use Rattle.expr_rules.specs.Layers.{SuffixLayer}
use Rattle.expr_rules.specs.Literals.{pieces_of}
use Rattle.expr_rules.specs.Own.{as_judged, all_given, common_of, array_of, array_form, array, chosen_as, choice, prefix_op, with_prefix, found_at, found_behind, has_members, item_of, items_of, alike, alike_type, math_call, call, translated, form_own, suffixed_span, suffix_own, suffixed_own, chained_own}
use Rattle.expr_rules.specs.OwnBlocks.{lacks_value}
use Rattle.expr_types.specs.Judgement.{Rules, ComesTo, comes, AllCome, none, more}
use Rattle.expr_types.specs.Kinds.{IsStanding, IsValue, IsBlock}
use Rattle.expr_types.specs.Nodes.{Node, At, Denotes, Suffixed, Chained, FieldName, Assigned, Body, Braces, Otherwise, Statement, parts, form_parts, suffixed_parts, suffix_parts, chained_parts}
use Rattle.expr_types.specs.Typing.{own, typing}
use Rattle.expr_types.specs.Verdicts.{Tells, something}

-- results that stand for something, if they are any
abbrev Stands : Result Judged Fault → Type 0
Stands (Ok x) = IsStanding x
Stands (Err f) = Unit {0}

either_way : (b : Bool) (r q : Result Judged Fault) → Stands r → Stands q → Stands (if b then r else q)
either_way true r q k h = k
either_way false r q k h = h

at_ok : {r : Result Judged Fault} {x : Judged} → r ≡ Ok x → Stands r → IsStanding x
at_ok e p = let P : Result Judged Fault → Type 0 = λ z. Stands z in subst P e p

value_stands : (x : Judged) → IsValue x → IsStanding x
value_stands x e = let P : Judged → Type 0 = λ z. IsStanding z in subst P (sym e) refl

judged_value : (r : Result TypedExpr Fault) (x : Judged) → as_judged r ≡ Ok x → IsValue x
judged_value (Ok t) x e = let same : value_of t ≡ x = cc in let P : Judged → Type 0 = λ z. IsValue z in subst P same refl
judged_value (Err f) x e = cc

judged_stands : (r : Result TypedExpr Fault) → Stands (as_judged r)
judged_stands (Ok t) = refl
judged_stands (Err f) = tt

-- the own rules of expressions

found_stands : (span name : Span) (plain : Bool) (found : Lookup) → Stands (found_at span name plain found)
found_stands span name plain None = tt
found_stands span name plain (Some (Err rule)) = tt
found_stands span name plain (Some (Ok m)) = refl

behind_stands : (d : Denoted) (name : Span) (found : Lookup) → Stands (found_behind d name found)
behind_stands d name None = tt
behind_stands d name (Some (Err rule)) = tt
behind_stands d name (Some (Ok m)) = refl

common_stands : (span : Span) (es : List TypedExpr) (t : Option Ty) → Stands (array_of span es t)
common_stands span es None = tt
common_stands span es (Some t) = refl

array_form_stands : (f : Form) (span : Span) (es : List TypedExpr) → Stands (array_form f span es)
array_form_stands (form.Array item) span es = refl
array_form_stands form.Void span es = refl
array_form_stands _ span es = common_stands span es (common_of es)

array_stands : (place : Place) (span : Span) (es : List TypedExpr) → Stands (array place span es)
array_stands place span [] = refl
array_stands None span (e ∷ es) = common_stands span (e ∷ es) (common_of (e ∷ es))
array_stands (Some t) span (e ∷ es) = array_form_stands (out-Ty t) span (e ∷ es)

chosen_stands : (span : Span) (c a b : TypedExpr) (t : Option Ty) → Stands (chosen_as span c a b t)
chosen_stands span c a b None = tt
chosen_stands span c a b (Some t) = refl

choice_stands : (place : Place) (span : Span) (c a b : TypedExpr) → Stands (choice place span c a b)
choice_stands None span c a b = chosen_stands span c a b (common (expr_ty a) (expr_ty b))
choice_stands (Some t) span c a b = refl

prefix_stands : (o : TypedPrefixOp) (span : Span) (e : TypedExpr) (code : Option TyCode) → Stands (with_prefix o span e code)
prefix_stands o span e None = tt
prefix_stands o span e (Some code) = refl

translated_stands : (span : Span) (xs : List Judged) (pieces : List (List ℕ)) → Stands (translated span xs pieces)
translated_stands span xs [] = tt
translated_stands span xs (first ∷ pieces) = either_way (length xs == length pieces) _ _ refl tt

item_stands : (d : Denoted) (e i : TypedExpr) (span : Span) (t : Option Ty) → Stands (item_of d e i span t)
item_stands d e i span None = tt
item_stands d e i span (Some t) = refl

index_stands : (d : Denoted) (i : TypedExpr) (span : Span) (r : Result TypedExpr Fault) → Stands (on_ok r (λ e. item_of d e i span (items_of (out-Ty (expr_ty e)))))
index_stands d i span (Ok e) = item_stands d e i span (items_of (out-Ty (expr_ty e)))
index_stands d i span (Err f) = tt

alike_stands : (f : MathFunction) (span : Span) (es : List TypedExpr) (t : Option Ty) → Stands (alike f span es t)
alike_stands f span es None = tt
alike_stands f span es (Some t) = refl

math_stands : (f : MathFunction) (a : Arguments) (span : Span) (es : List TypedExpr) → Stands (math_call f a span es)
math_stands f (arguments.Alike count) span es = either_way (length es == count) _ _ (alike_stands f span es (alike_type (common_of es))) tt
math_stands f arguments.Rounded span es = either_way (length es == 1) _ _ refl tt

call_stands : (m : Meaning) (span : Span) (es : List TypedExpr) → Stands (call m span es)
call_stands (meaning.Callable callee signature) span es = either_way (length es == length signature.parameters) _ _ refl tt
call_stands (meaning.Math function) span es = math_stands function.function function.arguments span es
call_stands (meaning.Method m e) span es = either_way (length es == 0) _ _ refl tt
call_stands (meaning.Value e) span es = tt
call_stands (meaning.Element e) span es = tt
call_stands (meaning.Global g) span es = tt
call_stands (meaning.Enum k) span es = tt
call_stands (meaning.Namespace k) span es = tt

-- what kind of thing a node comes to
abbrev KindOf : Node → Judged → Type 0
KindOf (At place e) x = IsValue x
KindOf (Denotes place e) x = IsStanding x
KindOf (Suffixed e suffixes) x = IsStanding x
KindOf (Chained e operands) x = IsStanding x
KindOf (FieldName ident before) x = Unit {0}
KindOf (Assigned e) x = Unit {0}
KindOf (Body t stmts span) x = IsBlock x
KindOf (Braces t ends stmts span) x = IsBlock x
KindOf (Otherwise t ends otherwise) x = Unit {0}
KindOf (Statement t ends stmt) x = Unit {0}

abbrev KindsOf : List Node → List Judged → Type 0
KindsOf [] [] = Unit {0}
KindsOf [] (x ∷ xs) = ⊥
KindsOf (n ∷ ns) [] = ⊥
KindsOf (n ∷ ns) (x ∷ xs) = KindOf n x × KindsOf ns xs

form_stands : (s : ScopeValue) (place : Place) (layer : ExprLayer) (xs : List Judged) → KindsOf (form_parts place layer) xs → Stands (form_own s place layer xs)
form_stands s place (Expr-F.Number n span) xs k = refl
form_stands s place (Expr-F.Colour c span) xs k = refl
form_stands s place (Expr-F.Text t span) xs k = refl
form_stands s place (Expr-F.Template t holes span) xs k = refl
form_stands s place (Expr-F.Name ident span) xs k = found_stands ident.span ident.span true (looked_up s place ident.name ident.span)
form_stands s place (Expr-F.Paren e span) (x ∷ []) k = refl
form_stands s place (Expr-F.Paren e span) [] k = absurd k
form_stands s place (Expr-F.Paren e span) (x ∷ y ∷ xs) k = absurd k.1
form_stands s place (Expr-F.Array es span) xs k = array_stands place span (all_given xs)
form_stands s place (Expr-F.Struct fs span) xs k = refl
form_stands s place (Expr-F.ImageUrl path span) xs k = refl
form_stands s place (Expr-F.Tr context t es span) xs k = translated_stands span xs (pieces_of t.text)
form_stands s place (Expr-F.Postfix e ss span) (x ∷ []) k = k.0
form_stands s place (Expr-F.Postfix e ss span) [] k = absurd k
form_stands s place (Expr-F.Postfix e ss span) (x ∷ y ∷ xs) k = absurd k.1
form_stands s place (Expr-F.Prefix o e span) (x ∷ []) k = prefix_stands (prefix_op o) span (given x) (prefixed (prefix_op o) (code_of (out-Ty (expr_ty (given x)))))
form_stands s place (Expr-F.Prefix o e span) [] k = absurd k
form_stands s place (Expr-F.Prefix o e span) (x ∷ y ∷ xs) k = absurd k.1
form_stands s place (Expr-F.Chain e os span) (x ∷ []) k = k.0
form_stands s place (Expr-F.Chain e os span) [] k = absurd k
form_stands s place (Expr-F.Chain e os span) (x ∷ y ∷ xs) k = absurd k.1
form_stands s place (Expr-F.Choice c a b span) [] k = absurd k
form_stands s place (Expr-F.Choice c a b span) (x ∷ []) k = absurd k.1
form_stands s place (Expr-F.Choice c a b span) (x ∷ y ∷ []) k = absurd k.1.1
form_stands s place (Expr-F.Choice c a b span) (x ∷ y ∷ z ∷ []) k = choice_stands place span (given x) (given y) (given z)
form_stands s place (Expr-F.Choice c a b span) (x ∷ y ∷ z ∷ u ∷ xs) k = absurd k.1.1.1

suffix_stands : (s : ScopeValue) (e : Expr) (before : List Suffix) (layer : SuffixLayer) (span : Span) (xs ys : List Judged) → KindsOf (suffix_parts e before layer) xs → Stands (suffix_own s e before layer span xs ys)
suffix_stands s e before (Suffix-F.Member name) span (x ∷ []) ys k =
    either_way (has_members (denoted x).meaning) _ _ (behind_stands (denoted x) name.span (behind_point s (denoted x).is_plain (denoted x).meaning name.name span)) tt
suffix_stands s e before (Suffix-F.Member name) span [] ys k = absurd k
suffix_stands s e before (Suffix-F.Member name) span (x ∷ y ∷ xs) ys k = absurd k.1
suffix_stands s e before (Suffix-F.Call es stretch) span (x ∷ []) ys k = call_stands (denoted x).meaning span (all_given ys)
suffix_stands s e before (Suffix-F.Call es stretch) span [] ys k = absurd k
suffix_stands s e before (Suffix-F.Call es stretch) span (x ∷ y ∷ xs) ys k = absurd k.1
suffix_stands s e before (Suffix-F.Index i stretch) span [] ys k = absurd k
suffix_stands s e before (Suffix-F.Index i stretch) span (x ∷ []) ys k = absurd k.1
suffix_stands s e before (Suffix-F.Index i stretch) span (x ∷ y ∷ []) ys k = index_stands (denoted x) (given y) span (as_value (suffixed_span e before) (denoted x).name (denoted x).meaning)
suffix_stands s e before (Suffix-F.Index i stretch) span (x ∷ y ∷ z ∷ xs) ys k = absurd k.1.1

suffixed_stands : (s : ScopeValue) (e : Expr) (suffixes : List Suffix) (xs ys : List Judged) → KindsOf (suffixed_parts e suffixes) xs → Stands (suffixed_own s e suffixes xs ys)
suffixed_stands s e [] (x ∷ []) ys k = k.0
suffixed_stands s e [] [] ys k = absurd k
suffixed_stands s e [] (x ∷ y ∷ xs) ys k = absurd k.1
suffixed_stands s e (suffix ∷ before) xs ys k = suffix_stands s e before (out-Suffix suffix) (suffixed_span e (suffix ∷ before)) xs ys k

chained_stands : (e : Expr) (operands : List Operand) (xs : List Judged) → KindsOf (chained_parts e operands) xs → Stands (chained_own e operands xs)
chained_stands e [] (x ∷ []) k = value_stands x k.0
chained_stands e [] [] k = absurd k
chained_stands e [] (x ∷ y ∷ xs) k = absurd k.1
chained_stands e (o ∷ before) [] k = absurd k
chained_stands e (o ∷ before) (x ∷ []) k = absurd k.1
chained_stands e (o ∷ before) (x ∷ y ∷ []) k = judged_stands _
chained_stands e (o ∷ before) (x ∷ y ∷ z ∷ xs) k = absurd k.1.1

-- blocks

abbrev Blocks : Result Judged Fault → Type 0
Blocks (Ok x) = IsBlock x
Blocks (Err f) = Unit {0}

either_block : (b : Bool) (r q : Result Judged Fault) → Blocks r → Blocks q → Blocks (if b then r else q)
either_block true r q k h = k
either_block false r q k h = h

block_ok : {r : Result Judged Fault} {x : Judged} → r ≡ Ok x → Blocks r → IsBlock x
block_ok e p = let P : Result Judged Fault → Type 0 = λ z. Blocks z in subst P e p

own_kind : (s : ScopeValue) (n : Node) (xs ys : List Judged) (x : Judged) → KindsOf (parts n) xs → own s n xs ys ≡ Ok x → KindOf n x
own_kind s (At place e) (d ∷ []) ys x k h = judged_value _ x h
own_kind s (At place e) [] ys x k h = absurd k
own_kind s (At place e) (d ∷ c ∷ xs) ys x k h = absurd k.1
own_kind s (Denotes place e) xs ys x k h = at_ok h (form_stands s place (out-Expr e) xs k)
own_kind s (Suffixed e suffixes) xs ys x k h = at_ok h (suffixed_stands s e suffixes xs ys k)
own_kind s (Chained e operands) xs ys x k h = at_ok h (chained_stands e operands xs k)
own_kind s (FieldName ident before) xs ys x k h = tt
own_kind s (Assigned e) xs ys x k h = tt
own_kind s (Body t stmts span) (d ∷ []) ys x k h = block_ok h (either_block (lacks_value (out-Ty t) stmts) _ _ tt k.0)
own_kind s (Body t stmts span) [] ys x k h = absurd k
own_kind s (Body t stmts span) (d ∷ c ∷ xs) ys x k h = absurd k.1
own_kind s (Braces t ends stmts span) xs ys x k h = block_ok h refl
own_kind s (Otherwise t ends otherwise) xs ys x k h = tt
own_kind s (Statement t ends stmt) xs ys x k h = tt

-- each own rule keeps the kinds
abbrev KeepsKinds : Rules Node Judged Fault → Type 0
KeepsKinds r = (n : Node) (xs ys : List Judged) (x : Judged) → KindsOf (r.parts n) xs → r.own n xs ys ≡ Ok x → KindOf n x

mutual
  kind_of : {r : Rules Node Judged Fault} {n : Node} {x : Judged} → KeepsKinds r → ComesTo Node Judged Fault r n x → KindOf n x
  kind_of keeps (comes {n} {xs} {ys} {x} a b h) = keeps n xs ys x (kinds_of keeps a) h

  kinds_of : {r : Rules Node Judged Fault} {ns : List Node} {xs : List Judged} → KeepsKinds r → AllCome Node Judged Fault r ns xs → KindsOf ns xs
  kinds_of keeps none = tt
  kinds_of keeps (more a rest) = (kind_of keeps a, kinds_of keeps rest)

told_kind : {s : ScopeValue} (n : Node) {x : Judged} → Tells s n (Ok x) → KindOf n x
told_kind {s} n (something k) = kind_of {r = typing s} (own_kind s) k

pub told_value : {s : ScopeValue} (place : Place) (e : Expr) {x : Judged} → Tells s (At place e) (Ok x) → IsValue x
told_value place e t = told_kind (At place e) t

pub told_standing : {s : ScopeValue} (place : Place) (e : Expr) {x : Judged} → Tells s (Denotes place e) (Ok x) → IsStanding x
told_standing place e t = told_kind (Denotes place e) t

pub told_block : {s : ScopeValue} (t : Ty) (stmts : List Stmt) (span : Span) {x : Judged} → Tells s (Body t stmts span) (Ok x) → IsBlock x
told_block t stmts span told = told_kind (Body t stmts span) told

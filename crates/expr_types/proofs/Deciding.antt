-- Each node comes to something or breaks a rule: by its parts, and so by the structure of the trees.
use Rattle.std.proofs.Common.{◌≡◌, ℕ, Bool, true, false, ◌&&◌, inl, inr, List, [], ◌∷◌, ◌++◌, map, reverse, Option, Some, None, Result, Ok, Err, refl, sym, subst, ◌∙◌}
use Rattle.std.proofs.lemmas.List.{reverse-append}
use Rattle.std.specs.Cmp.Lexicographic.{slice_cmp}
use Rattle.std.specs.Ordering.{nat_cmp, is_gt}
use Rattle.slint_base.specs.declared.faults.Fault.{Fault}
use Rattle.slint_base.specs.declared.faults.Span.{Span}
use Rattle.syntax_tree.specs.declared.expressions.Expr.{Expr, out-Expr, roll-Expr, out-roll-Expr, map-Expr, ind-Expr}
use Rattle.syntax_tree.specs.declared.expressions.Expr.TheOpen.{Expr-F, Suffix-F}
use Rattle.syntax_tree.specs.declared.expressions.FieldValue.{FieldValue, out-FieldValue, out-roll-FieldValue}
use Rattle.syntax_tree.specs.declared.expressions.Hole.{Hole, out-Hole, out-roll-Hole}
use Rattle.syntax_tree.specs.declared.expressions.Operand.{Operand, out-Operand, out-roll-Operand}
use Rattle.syntax_tree.specs.declared.expressions.Suffix.{Suffix, out-Suffix, roll-Suffix, out-roll-Suffix, map-Suffix}
use Rattle.syntax_tree.specs.declared.statements.AssignOp.{AssignOp}
use Rattle.syntax_tree.specs.declared.statements.AssignOp.TheVariants as assigns
use Rattle.syntax_tree.specs.declared.statements.Block.{Block, out-Block, roll-Block, out-roll-Block, map-Block}
use Rattle.syntax_tree.specs.declared.statements.Else.{Else, out-Else, roll-Else, out-roll-Else, map-Else, ind-Else}
use Rattle.syntax_tree.specs.declared.statements.Else.TheOpen.{Else-F, Stmt-F, Block-F}
use Rattle.syntax_tree.specs.declared.statements.Stmt.{Stmt, out-Stmt, roll-Stmt, out-roll-Stmt, map-Stmt, ind-Stmt}
use Rattle.syntax_tree.specs.declared.words.Ident.{Ident}
use Rattle.syntax_tree.specs.Spans.{ExprLayer}
use Rattle.value_types.specs.declared.types.Ty.{Ty}
use Rattle.value_types.specs.declared.types.Ty.TheVariants as ty
use Rattle.typed_tree.specs.Scopes.{Place, ScopeValue}
use Rattle.expr_rules.specs.declared.judged.Judged.{Judged}
use Rattle.expr_rules.specs.Denotations.{denoted, field_place, item_place}
use Rattle.expr_rules.specs.Layers.{SuffixLayer, StmtLayer, ElseLayer}
use Rattle.expr_rules.specs.Targets.{argument_places, assigned_place}
use Rattle.fault_order.specs.Order.{IsFirst, NotBehind, rank}
use Rattle.expr_types.specs.Judgement.{comes, AllCome, none, more, FaultAmong}
use Rattle.expr_types.specs.Nodes.{Node, At, Denotes, Suffixed, Chained, FieldName, Assigned, Body, Braces, Otherwise, Statement, at_all, hole_nodes, field_nodes, argument_nodes, argument_parts, form_parts, suffix_parts, statement_nodes, statement_parts, statement_later, otherwise_parts, if_parts, braces, has_else, right_operand, right_side, returned, expression_place, parts, later_parts}
use Rattle.expr_types.specs.Typing.{own, typing, SomeOutcome, comes_to, breaks}
use Rattle.expr_types.specs.Verdicts.{Seen, all, some_fault, something, fault}
use Rattle.expr_types.proofs.Order.{not_behind_itself, not_behind_turned}
use Rattle.expr_types.proofs.Telling.{all_fault, fault_all, fault_fault, fault_told, first_told, later_told, one_seen, own_told}

-- nodes that all come to something, or of whose faults one is told first
data All (s : ScopeValue) (ns : List Node) : Type 0 where
  all_come : {xs : List Judged} → AllCome Node Judged Fault (typing s) ns xs → All s ns
  some_break : {f : Fault} → IsFirst (FaultAmong Node Judged Fault (typing s) ns) f → All s ns

no_nodes : (s : ScopeValue) → All s []
no_nodes s = all_come none

broken : {s : ScopeValue} {ns : List Node} {f : Fault} → Seen s ns (Err f) → All s ns
broken (some_fault p) = some_break p

-- of two faults the one that is told first
both_break : {s : ScopeValue} (n : Node) (ns : List Node) {f g : Fault} (b : Bool) → is_gt (slice_cmp nat_cmp (rank f) (rank g)) ≡ b → Seen s (n ∷ []) (Err f) → Seen s ns (Err g) → All s (n ∷ ns)
both_break n ns {f} {g} false e p q = broken (fault_fault (n ∷ []) ns p q (not_behind_itself f) e (inl refl))
both_break n ns {f} {g} true e p q =
    let other : NotBehind f g → ⊥ = λ k. absurd (true_false (sym e ∙ k)) in
    broken (fault_fault (n ∷ []) ns p q (not_behind_turned f g other) (not_behind_itself g) (inr refl))
  where
    true_false : true ≡ false → ⊥
    true_false h = cc

more_nodes : {s : ScopeValue} (n : Node) (ns : List Node) → SomeOutcome s n → All s ns → All s (n ∷ ns)
more_nodes n ns (comes_to a) (all_come b) = all_come (more a b)
more_nodes n ns (comes_to a) (some_break q) = broken (all_fault (n ∷ []) ns (one_seen (something a)) (some_fault q))
more_nodes n ns (breaks p) (all_come b) = broken (fault_all (n ∷ []) ns (one_seen (fault p)) (all b))
more_nodes n ns (breaks p) (some_break q) = both_break n ns _ refl (one_seen (fault p)) (some_fault q)

own_outcome : {s : ScopeValue} (n : Node) {xs ys : List Judged} (r : Result Judged Fault) → own s n xs ys ≡ r → AllCome Node Judged Fault (typing s) (parts n) xs → AllCome Node Judged Fault (typing s) (later_parts s n xs) ys → SomeOutcome s n
own_outcome n (Ok x) e a b = comes_to (comes a b e)
own_outcome n (Err f) e a b = breaks (first_told n (own_told n (Err f) (all a) (all b) (sym e)))

later_outcome : {s : ScopeValue} (n : Node) (xs : List Judged) → AllCome Node Judged Fault (typing s) (parts n) xs → All s (later_parts s n xs) → SomeOutcome s n
later_outcome n xs a (all_come b) = own_outcome n _ refl a b
later_outcome n xs a (some_break p) = breaks (first_told n (later_told n (all a) (some_fault p)))

-- a node by its parts
by_parts : {s : ScopeValue} (n : Node) → All s (parts n) → ((xs : List Judged) → AllCome Node Judged Fault (typing s) (parts n) xs → All s (later_parts s n xs)) → SomeOutcome s n
by_parts n (all_come {xs} a) later = later_outcome n xs a (later xs a)
by_parts n (some_break p) later = breaks (first_told n (fault_told n (some_fault p)))

-- expressions

abbrev Whole : ScopeValue → Expr → Type 0
Whole s e = (place : Place) → SomeOutcome s (Denotes place e)

at_outcome : {s : ScopeValue} (place : Place) (e : Expr) → Whole s e → SomeOutcome s (At place e)
at_outcome {s} place e d = by_parts (At place e) (more_nodes (Denotes place e) [] (d place) (no_nodes s)) (λ xs a. no_nodes s)

abbrev Each : {A : Type 0} → (A → Type 0) → List A → Type 0
Each P [] = Unit {0}
Each P (x ∷ xs) = P x × Each P xs

each_append : {A : Type 0} (P : A → Type 0) (xs ys : List A) → Each P xs → Each P ys → Each P (xs ++ ys)
each_append P [] ys p q = q
each_append P (x ∷ xs) ys p q = (p.0, each_append P xs ys p.1 q)

each_reverse : {A : Type 0} (P : A → Type 0) (xs : List A) → Each P xs → Each P (reverse xs)
each_reverse P [] p = tt
each_reverse {A} P (x ∷ xs) p = let Q : List A → Type 0 = λ z. Each P z in subst Q (sym (reverse-append (x ∷ []) xs)) (each_append P (reverse xs) (x ∷ []) (each_reverse P xs p.1) (p.0, tt))

each_of : {A : Type 0} (P : A → Type 0) (ys : List ((x : A) × P x)) → Each P (map (λ e. e.0) ys)
each_of P [] = tt
each_of P (y ∷ ys) = (y.1, each_of P ys)

each_all : {A : Type 0} (P : A → Type 0) → ((x : A) → P x) → (xs : List A) → Each P xs
each_all P p [] = tt
each_all P p (x ∷ xs) = (p x, each_all P p xs)

all_outcome : {s : ScopeValue} (place : Place) (es : List Expr) → Each (Whole s) es → All s (at_all place es)
all_outcome {s} place [] p = no_nodes s
all_outcome place (e ∷ es) p = more_nodes (At place e) (at_all place es) (at_outcome place e p.0) (all_outcome place es p.1)

passed_outcome : {s : ScopeValue} (places : List Place) (es : List Expr) → Each (Whole s) es → All s (argument_nodes places es)
passed_outcome {s} places [] p = no_nodes s
passed_outcome [] (e ∷ es) p = more_nodes (At None e) (argument_nodes [] es) (at_outcome None e p.0) (passed_outcome [] es p.1)
passed_outcome (place ∷ places) (e ∷ es) p = more_nodes (At place e) (argument_nodes places es) (at_outcome place e p.0) (passed_outcome places es p.1)

abbrev OfHole : ScopeValue → Hole → Type 0
OfHole s h = Whole s (out-Hole h).value

abbrev OfField : ScopeValue → FieldValue → Type 0
OfField s f = Whole s (out-FieldValue f).value

abbrev OfOperand : ScopeValue → Operand → Type 0
OfOperand s o = Whole s (out-Operand o).right

abbrev InSuffix : ScopeValue → SuffixLayer → Type 0
InSuffix s (Suffix-F.Member name) = Unit {0}
InSuffix s (Suffix-F.Call es span) = Each (Whole s) es
InSuffix s (Suffix-F.Index i span) = Whole s i

abbrev OfSuffix : ScopeValue → Suffix → Type 0
OfSuffix s x = InSuffix s (out-Suffix x)

holes_outcome : {s : ScopeValue} (hs : List Hole) → Each (OfHole s) hs → All s (hole_nodes hs)
holes_outcome {s} [] p = no_nodes s
holes_outcome (h ∷ hs) p = more_nodes (At (Some ty.Str) (out-Hole h).value) (hole_nodes hs) (at_outcome (Some ty.Str) (out-Hole h).value p.0) (holes_outcome hs p.1)

name_outcome : (s : ScopeValue) (ident : Ident) (before : List (List ℕ)) → SomeOutcome s (FieldName ident before)
name_outcome s ident before = by_parts (FieldName ident before) (no_nodes s) (λ xs a. no_nodes s)

fields_outcome : {s : ScopeValue} (place : Place) (before : List (List ℕ)) (fs : List FieldValue) → Each (OfField s) fs → All s (field_nodes place before fs)
fields_outcome {s} place before [] p = no_nodes s
fields_outcome {s} place before (f ∷ fs) p =
    let value = field_place (out-FieldValue f).name.name place in
    let rest = field_nodes place (before ++ (out-FieldValue f).name.name ∷ []) fs in
    more_nodes (FieldName (out-FieldValue f).name before) (At value (out-FieldValue f).value ∷ rest) (name_outcome s (out-FieldValue f).name before)
    (more_nodes (At value (out-FieldValue f).value) rest (at_outcome value (out-FieldValue f).value p.0) (fields_outcome place (before ++ (out-FieldValue f).name.name ∷ []) fs p.1))

suffix_outcome : {s : ScopeValue} (e : Expr) (before : List Suffix) (layer : SuffixLayer) → InSuffix s layer → SomeOutcome s (Suffixed e before) → All s (suffix_parts e before layer)
suffix_outcome {s} e before (Suffix-F.Member name) p d = more_nodes (Suffixed e before) [] d (no_nodes s)
suffix_outcome {s} e before (Suffix-F.Call es span) p d = more_nodes (Suffixed e before) [] d (no_nodes s)
suffix_outcome {s} e before (Suffix-F.Index i span) p d = more_nodes (Suffixed e before) (At (Some ty.Int) i ∷ []) d (more_nodes (At (Some ty.Int) i) [] (at_outcome (Some ty.Int) i p) (no_nodes s))

arguments_outcome : {s : ScopeValue} (layer : SuffixLayer) (xs : List Judged) → InSuffix s layer → All s (argument_parts layer xs)
arguments_outcome {s} (Suffix-F.Member name) xs p = no_nodes s
arguments_outcome {s} (Suffix-F.Index i span) xs p = no_nodes s
arguments_outcome {s} (Suffix-F.Call es span) [] p = no_nodes s
arguments_outcome (Suffix-F.Call es span) (x ∷ xs) p = passed_outcome (argument_places (denoted x).meaning) es p

suffixed_outcome : {s : ScopeValue} (e : Expr) (xs : List Suffix) → Whole s e → Each (OfSuffix s) xs → SomeOutcome s (Suffixed e xs)
suffixed_outcome {s} e [] d p = by_parts (Suffixed e []) (more_nodes (Denotes None e) [] (d None) (no_nodes s)) (λ xs a. no_nodes s)
suffixed_outcome e (x ∷ before) d p = by_parts (Suffixed e (x ∷ before)) (suffix_outcome e before (out-Suffix x) p.0 (suffixed_outcome e before d p.1)) (λ xs a. arguments_outcome (out-Suffix x) xs p.0)

chained_outcome : {s : ScopeValue} (e : Expr) (os : List Operand) → Whole s e → Each (OfOperand s) os → SomeOutcome s (Chained e os)
chained_outcome {s} e [] d p = by_parts (Chained e []) (more_nodes (At None e) [] (at_outcome None e d) (no_nodes s)) (λ xs a. no_nodes s)
chained_outcome {s} e (o ∷ before) d p = by_parts (Chained e (o ∷ before))
    (more_nodes (Chained e before) (At None (out-Operand o).right ∷ []) (chained_outcome e before d p.1) (more_nodes (At None (out-Operand o).right) [] (at_outcome None (out-Operand o).right p.0) (no_nodes s)))
    (λ xs a. no_nodes s)

one_node : {s : ScopeValue} (n : Node) → SomeOutcome s n → All s (n ∷ [])
one_node {s} n d = more_nodes n [] d (no_nodes s)

-- what is in a form has outcomes
abbrev InForm : ScopeValue → ExprLayer → Type 0
InForm s (Expr-F.Number n span) = Unit {0}
InForm s (Expr-F.Colour c span) = Unit {0}
InForm s (Expr-F.Text t span) = Unit {0}
InForm s (Expr-F.Template t holes span) = Each (OfHole s) holes
InForm s (Expr-F.Name ident span) = Unit {0}
InForm s (Expr-F.Paren e span) = Whole s e
InForm s (Expr-F.Array es span) = Each (Whole s) es
InForm s (Expr-F.Struct fs span) = Each (OfField s) fs
InForm s (Expr-F.ImageUrl path span) = Unit {0}
InForm s (Expr-F.Tr context t es span) = Each (Whole s) es
InForm s (Expr-F.Postfix e ss span) = Whole s e × Each (OfSuffix s) ss
InForm s (Expr-F.Prefix o e span) = Whole s e
InForm s (Expr-F.Chain e os span) = Whole s e × Each (OfOperand s) os
InForm s (Expr-F.Choice c a b span) = Whole s c × (Whole s a × Whole s b)

form_outcome : {s : ScopeValue} (place : Place) (layer : ExprLayer) → InForm s layer → All s (form_parts place layer)
form_outcome {s} place (Expr-F.Number n span) p = no_nodes s
form_outcome {s} place (Expr-F.Colour c span) p = no_nodes s
form_outcome {s} place (Expr-F.Text t span) p = no_nodes s
form_outcome place (Expr-F.Template t holes span) p = holes_outcome holes p
form_outcome {s} place (Expr-F.Name ident span) p = no_nodes s
form_outcome place (Expr-F.Paren e span) p = one_node (Denotes place e) (p place)
form_outcome place (Expr-F.Array es span) p = all_outcome (item_place place) es p
form_outcome place (Expr-F.Struct fs span) p = fields_outcome place [] fs p
form_outcome {s} place (Expr-F.ImageUrl path span) p = no_nodes s
form_outcome place (Expr-F.Tr context t es span) p = all_outcome (Some ty.Str) es p
form_outcome {s} place (Expr-F.Postfix e ss span) p = one_node (Suffixed e (reverse ss)) (suffixed_outcome e (reverse ss) p.0 (each_reverse (OfSuffix s) ss p.1))
form_outcome place (Expr-F.Prefix o e span) p = one_node (At None e) (at_outcome None e p)
form_outcome {s} place (Expr-F.Chain e os span) p = one_node (Chained e (reverse os)) (chained_outcome e (reverse os) p.0 (each_reverse (OfOperand s) os p.1))
form_outcome place (Expr-F.Choice c a b span) p = more_nodes (At (Some ty.Bool) c) (At place a ∷ At place b ∷ []) (at_outcome (Some ty.Bool) c p.0)
    (more_nodes (At place a) (At place b ∷ []) (at_outcome place a p.1.0) (one_node (At place b) (at_outcome place b p.1.1)))

opened_outcome : {s : ScopeValue} (e : Expr) → InForm s (out-Expr e) → Whole s e
opened_outcome {s} e p = λ place. by_parts (Denotes place e) (form_outcome place (out-Expr e) p) (λ xs a. no_nodes s)

-- statements

abbrev Any : ScopeValue → Type 0
Any s = (e : Expr) → Whole s e

abbrev OfStmt : ScopeValue → Stmt → Type 0
OfStmt s stmt = (t : Ty) (ends : Bool) → SomeOutcome s (Statement t ends stmt)

abbrev OfElse : ScopeValue → Else → Type 0
OfElse s otherwise = (t : Ty) (ends : Bool) → SomeOutcome s (Otherwise t ends otherwise)

abbrev OfBlock : ScopeValue → Block → Type 0
OfBlock s block = (t : Ty) (ends : Bool) → SomeOutcome s (braces t ends block)

statements_outcome : {s : ScopeValue} (t : Ty) (ends : Bool) (xs : List Stmt) → Each (OfStmt s) xs → All s (statement_nodes t ends xs)
statements_outcome {s} t ends [] p = no_nodes s
statements_outcome t ends (x ∷ []) p = one_node (Statement t ends x) (p.0 t ends)
statements_outcome t ends (x ∷ y ∷ ys) p = more_nodes (Statement t false x) (statement_nodes t ends (y ∷ ys)) (p.0 t false) (statements_outcome t ends (y ∷ ys) p.1)

braces_outcome : {s : ScopeValue} (t : Ty) (ends : Bool) (xs : List Stmt) (span : Span) → Each (OfStmt s) xs → SomeOutcome s (Braces t ends xs span)
braces_outcome {s} t ends xs span p = by_parts (Braces t ends xs span) (statements_outcome t ends xs p) (λ xs a. no_nodes s)

if_outcome : {s : ScopeValue} → Any s → (t : Ty) (ends : Bool) (c : Expr) (block : Block) (otherwise : Else) → OfBlock s block → OfElse s otherwise → All s (if_parts t ends c block otherwise)
if_outcome d t ends c block otherwise p q =
    let inner = ends && has_else (out-Else otherwise) in
    more_nodes (At (Some ty.Bool) c) (braces t inner block ∷ Otherwise t ends otherwise ∷ []) (at_outcome (Some ty.Bool) c (d c))
    (more_nodes (braces t inner block) (Otherwise t ends otherwise ∷ []) (p t inner) (one_node (Otherwise t ends otherwise) (q t ends)))

abbrev InStmt : ScopeValue → StmtLayer → Type 0
InStmt s (Stmt-F.If c block otherwise span) = OfBlock s block × OfElse s otherwise
InStmt s (Stmt-F.Return value span) = Unit {0}
InStmt s (Stmt-F.Empty span) = Unit {0}
InStmt s (Stmt-F.Expr e) = Unit {0}
InStmt s (Stmt-F.Assign left op right span) = Unit {0}

abbrev InElse : ScopeValue → ElseLayer → Type 0
InElse s Else-F.Nothing = Unit {0}
InElse s (Else-F.ElseIf c block otherwise span) = OfBlock s block × OfElse s otherwise
InElse s (Else-F.ElseBlock block) = OfBlock s block

assigned_outcome : {s : ScopeValue} → Any s → (left : Expr) → SomeOutcome s (Assigned left)
assigned_outcome {s} d left = by_parts (Assigned left) (one_node (Denotes None left) (d left None)) (λ xs a. no_nodes s)

operand_outcome : {s : ScopeValue} → Any s → (op : AssignOp) (right : Expr) → All s (right_operand op right)
operand_outcome {s} d assigns.Set right = no_nodes s
operand_outcome d assigns.Add right = one_node (At None right) (at_outcome None right (d right))
operand_outcome d assigns.Sub right = one_node (At None right) (at_outcome None right (d right))
operand_outcome d assigns.Mul right = one_node (At None right) (at_outcome None right (d right))
operand_outcome d assigns.Div right = one_node (At None right) (at_outcome None right (d right))

returned_outcome : {s : ScopeValue} → Any s → (t : Ty) (value : Option Expr) → All s (returned t value)
returned_outcome {s} d t None = no_nodes s
returned_outcome d t (Some e) = one_node (At (Some t) e) (at_outcome (Some t) e (d e))

stmt_outcome : {s : ScopeValue} → Any s → (t : Ty) (ends : Bool) (layer : StmtLayer) → InStmt s layer → All s (statement_parts t ends layer)
stmt_outcome d t ends (Stmt-F.If c block otherwise span) p = if_outcome d t ends c block otherwise p.0 p.1
stmt_outcome d t ends (Stmt-F.Return value span) p = returned_outcome d t value
stmt_outcome {s} d t ends (Stmt-F.Empty span) p = no_nodes s
stmt_outcome d t ends (Stmt-F.Expr e) p = one_node (At (Some (expression_place t ends)) e) (at_outcome (Some (expression_place t ends)) e (d e))
stmt_outcome d t ends (Stmt-F.Assign left op right span) p = more_nodes (Assigned left) (right_operand op right) (assigned_outcome d left) (operand_outcome d op right)

right_outcome : {s : ScopeValue} → Any s → (op : AssignOp) (right : Expr) (xs : List Judged) → All s (right_side s op right xs)
right_outcome {s} d assigns.Set right [] = no_nodes s
right_outcome {s} d assigns.Set right (x ∷ xs) = let place = assigned_place s (denoted x).meaning in one_node (At place right) (at_outcome place right (d right))
right_outcome {s} d assigns.Add right xs = no_nodes s
right_outcome {s} d assigns.Sub right xs = no_nodes s
right_outcome {s} d assigns.Mul right xs = no_nodes s
right_outcome {s} d assigns.Div right xs = no_nodes s

later_stmt_outcome : {s : ScopeValue} → Any s → (layer : StmtLayer) (xs : List Judged) → All s (statement_later s layer xs)
later_stmt_outcome {s} d (Stmt-F.If c block otherwise span) xs = no_nodes s
later_stmt_outcome {s} d (Stmt-F.Return value span) xs = no_nodes s
later_stmt_outcome {s} d (Stmt-F.Empty span) xs = no_nodes s
later_stmt_outcome {s} d (Stmt-F.Expr e) xs = no_nodes s
later_stmt_outcome d (Stmt-F.Assign left op right span) xs = right_outcome d op right xs

opened_stmt : {s : ScopeValue} → Any s → (stmt : Stmt) → InStmt s (out-Stmt stmt) → OfStmt s stmt
opened_stmt d stmt p = λ t ends. by_parts (Statement t ends stmt) (stmt_outcome d t ends (out-Stmt stmt) p) (λ xs a. later_stmt_outcome d (out-Stmt stmt) xs)

else_outcome : {s : ScopeValue} → Any s → (t : Ty) (ends : Bool) (layer : ElseLayer) → InElse s layer → All s (otherwise_parts t ends layer)
else_outcome {s} d t ends Else-F.Nothing p = no_nodes s
else_outcome d t ends (Else-F.ElseIf c block otherwise span) p = if_outcome d t ends c block otherwise p.0 p.1
else_outcome d t ends (Else-F.ElseBlock block) p = one_node (braces t ends block) (p t ends)

opened_else : {s : ScopeValue} → Any s → (otherwise : Else) → InElse s (out-Else otherwise) → OfElse s otherwise
opened_else {s} d otherwise p = λ t ends. by_parts (Otherwise t ends otherwise) (else_outcome d t ends (out-Else otherwise) p) (λ xs a. no_nodes s)

opened_block : {s : ScopeValue} (block : Block) → Each (OfStmt s) (out-Block block).stmts → OfBlock s block
opened_block block p = λ t ends. braces_outcome t ends (out-Block block).stmts (out-Block block).span p

-- by the structure of expressions: each part of a layer stands beside what is known of it

abbrev Known : {A : Type 0} → (A → Type 0) → Type 0
Known {A} P = (x : A) × P x

abbrev KnownForm : ScopeValue → Type 0
KnownForm s = Expr-F (Known (Whole s)) (Known (OfSuffix s)) (Known (OfField s)) (Known (OfHole s)) (Known (OfOperand s))

abbrev bare_form : (s : ScopeValue) → KnownForm s → ExprLayer
bare_form s y = map-Expr (Known (Whole s)) (Known (OfSuffix s)) (Known (OfField s)) (Known (OfHole s)) (Known (OfOperand s)) Expr Suffix FieldValue Hole Operand (λ e. e.0) (λ e. e.0) (λ e. e.0) (λ e. e.0) (λ e. e.0) y

form_known : (s : ScopeValue) (y : KnownForm s) → InForm s (bare_form s y)
form_known s (Expr-F.Number n span) = tt
form_known s (Expr-F.Colour c span) = tt
form_known s (Expr-F.Text t span) = tt
form_known s (Expr-F.Template t holes span) = each_of (OfHole s) holes
form_known s (Expr-F.Name ident span) = tt
form_known s (Expr-F.Paren e span) = e.1
form_known s (Expr-F.Array es span) = each_of (Whole s) es
form_known s (Expr-F.Struct fs span) = each_of (OfField s) fs
form_known s (Expr-F.ImageUrl path span) = tt
form_known s (Expr-F.Tr context t es span) = each_of (Whole s) es
form_known s (Expr-F.Postfix e ss span) = (e.1, each_of (OfSuffix s) ss)
form_known s (Expr-F.Prefix o e span) = e.1
form_known s (Expr-F.Chain e os span) = (e.1, each_of (OfOperand s) os)
form_known s (Expr-F.Choice c a b span) = (c.1, (a.1, b.1))

expr_step : (s : ScopeValue) (x : ExprLayer) (y : KnownForm s) → bare_form s y ≡ x → Whole s (roll-Expr x)
expr_step s x y is = let P : ExprLayer → Type 0 = λ z. InForm s z in opened_outcome (roll-Expr x) (subst P (is ∙ sym (out-roll-Expr x)) (form_known s y))

abbrev KnownSuffix : ScopeValue → Type 0
KnownSuffix s = Suffix-F (Known (Whole s)) (Known (OfSuffix s)) (Known (OfField s)) (Known (OfHole s)) (Known (OfOperand s))

abbrev bare_suffix : (s : ScopeValue) → KnownSuffix s → SuffixLayer
bare_suffix s y = map-Suffix (Known (Whole s)) (Known (OfSuffix s)) (Known (OfField s)) (Known (OfHole s)) (Known (OfOperand s)) Expr Suffix FieldValue Hole Operand (λ e. e.0) (λ e. e.0) (λ e. e.0) (λ e. e.0) (λ e. e.0) y

suffix_known : (s : ScopeValue) (y : KnownSuffix s) → InSuffix s (bare_suffix s y)
suffix_known s (Suffix-F.Member name) = tt
suffix_known s (Suffix-F.Call es span) = each_of (Whole s) es
suffix_known s (Suffix-F.Index i span) = i.1

suffix_step : (s : ScopeValue) (x : SuffixLayer) (y : KnownSuffix s) → bare_suffix s y ≡ x → OfSuffix s (roll-Suffix x)
suffix_step s x y is = let P : SuffixLayer → Type 0 = λ z. InSuffix s z in subst P (is ∙ sym (out-roll-Suffix x)) (suffix_known s y)

whole : (s : ScopeValue) (e : Expr) → Whole s e
whole s = ind-Expr (Whole s) (OfSuffix s) (OfField s) (OfHole s) (OfOperand s) (λ x y is. expr_step s x y is) (λ x y is. suffix_step s x y is)
    (λ x y is. subst (λ z. Whole s z.value) (is ∙ sym (out-roll-FieldValue x)) y.value.1)
    (λ x y is. subst (λ z. Whole s z.value) (is ∙ sym (out-roll-Hole x)) y.value.1)
    (λ x y is. subst (λ z. Whole s z.right) (is ∙ sym (out-roll-Operand x)) y.right.1)

in_suffix : (s : ScopeValue) (layer : SuffixLayer) → InSuffix s layer
in_suffix s (Suffix-F.Member name) = tt
in_suffix s (Suffix-F.Call es span) = each_all (Whole s) (whole s) es
in_suffix s (Suffix-F.Index i span) = whole s i

-- and of statements

abbrev KnownStmt : ScopeValue → Type 0
KnownStmt s = Stmt-F (Known (OfElse s)) (Known (OfStmt s)) (Known (OfBlock s))

abbrev bare_stmt : (s : ScopeValue) → KnownStmt s → StmtLayer
bare_stmt s y = map-Stmt (Known (OfElse s)) (Known (OfStmt s)) (Known (OfBlock s)) Else Stmt Block (λ e. e.0) (λ e. e.0) (λ e. e.0) y

stmt_known : (s : ScopeValue) (y : KnownStmt s) → InStmt s (bare_stmt s y)
stmt_known s (Stmt-F.If c block otherwise span) = (block.1, otherwise.1)
stmt_known s (Stmt-F.Return value span) = tt
stmt_known s (Stmt-F.Empty span) = tt
stmt_known s (Stmt-F.Expr e) = tt
stmt_known s (Stmt-F.Assign left op right span) = tt

stmt_step : (s : ScopeValue) (x : StmtLayer) (y : KnownStmt s) → bare_stmt s y ≡ x → OfStmt s (roll-Stmt x)
stmt_step s x y is = let P : StmtLayer → Type 0 = λ z. InStmt s z in opened_stmt (whole s) (roll-Stmt x) (subst P (is ∙ sym (out-roll-Stmt x)) (stmt_known s y))

abbrev KnownElse : ScopeValue → Type 0
KnownElse s = Else-F (Known (OfElse s)) (Known (OfStmt s)) (Known (OfBlock s))

abbrev bare_else : (s : ScopeValue) → KnownElse s → ElseLayer
bare_else s y = map-Else (Known (OfElse s)) (Known (OfStmt s)) (Known (OfBlock s)) Else Stmt Block (λ e. e.0) (λ e. e.0) (λ e. e.0) y

else_known : (s : ScopeValue) (y : KnownElse s) → InElse s (bare_else s y)
else_known s Else-F.Nothing = tt
else_known s (Else-F.ElseIf c block otherwise span) = (block.1, otherwise.1)
else_known s (Else-F.ElseBlock block) = block.1

else_step : (s : ScopeValue) (x : ElseLayer) (y : KnownElse s) → bare_else s y ≡ x → OfElse s (roll-Else x)
else_step s x y is = let P : ElseLayer → Type 0 = λ z. InElse s z in opened_else (whole s) (roll-Else x) (subst P (is ∙ sym (out-roll-Else x)) (else_known s y))

abbrev KnownBlock : ScopeValue → Type 0
KnownBlock s = Block-F (Known (OfElse s)) (Known (OfStmt s)) (Known (OfBlock s))

abbrev BlockLayer : Type 0
BlockLayer = Block-F Else Stmt Block

abbrev bare_block : (s : ScopeValue) → KnownBlock s → BlockLayer
bare_block s y = map-Block (Known (OfElse s)) (Known (OfStmt s)) (Known (OfBlock s)) Else Stmt Block (λ e. e.0) (λ e. e.0) (λ e. e.0) y

block_step : (s : ScopeValue) (x : BlockLayer) (y : KnownBlock s) → bare_block s y ≡ x → OfBlock s (roll-Block x)
block_step s x y is = let P : BlockLayer → Type 0 = λ z. Each (OfStmt s) z.stmts in opened_block (roll-Block x) (subst P (is ∙ sym (out-roll-Block x)) (each_of (OfStmt s) y.stmts))

every_stmt : (s : ScopeValue) (stmt : Stmt) → OfStmt s stmt
every_stmt s = ind-Stmt (OfElse s) (OfStmt s) (OfBlock s) (λ x y is. else_step s x y is) (λ x y is. stmt_step s x y is) (λ x y is. block_step s x y is)

every_else : (s : ScopeValue) (otherwise : Else) → OfElse s otherwise
every_else s = ind-Else (OfElse s) (OfStmt s) (OfBlock s) (λ x y is. else_step s x y is) (λ x y is. stmt_step s x y is) (λ x y is. block_step s x y is)

any_braces : (s : ScopeValue) (t : Ty) (ends : Bool) (stmts : List Stmt) (span : Span) → SomeOutcome s (Braces t ends stmts span)
any_braces s t ends stmts span = braces_outcome t ends stmts span (each_all (OfStmt s) (every_stmt s) stmts)

pub some_outcome : (s : ScopeValue) (n : Node) → SomeOutcome s n
some_outcome s (At place e) = at_outcome place e (whole s e)
some_outcome s (Denotes place e) = whole s e place
some_outcome s (Suffixed e suffixes) = suffixed_outcome e suffixes (whole s e) (each_all (OfSuffix s) (λ x. in_suffix s (out-Suffix x)) suffixes)
some_outcome s (Chained e operands) = chained_outcome e operands (whole s e) (each_all (OfOperand s) (λ o. whole s (out-Operand o).right) operands)
some_outcome s (FieldName ident before) = name_outcome s ident before
some_outcome s (Assigned e) = assigned_outcome (whole s) e
some_outcome s (Body t stmts span) = by_parts (Body t stmts span) (one_node (Braces t true stmts span) (any_braces s t true stmts span)) (λ xs a. no_nodes s)
some_outcome s (Braces t ends stmts span) = any_braces s t ends stmts span
some_outcome s (Otherwise t ends otherwise) = every_else s otherwise t ends
some_outcome s (Statement t ends stmt) = every_stmt s stmt t ends

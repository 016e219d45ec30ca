-- What statements and blocks come to once their parts have come to something.
use Rattle.std.specs.Prelude.{Bool, true, false, if◌then◌else◌, List, [], ◌∷◌, Option, Some, None, Result, Ok}
use Rattle.slint_base.specs.declared.faults.Fault.{Fault}
use Rattle.slint_base.specs.declared.faults.Span.{Span}
use Rattle.slint_base.specs.declared.rules.Rule.TheVariants as rules
use Rattle.syntax_tree.specs.declared.statements.AssignOp.{AssignOp}
use Rattle.syntax_tree.specs.declared.statements.AssignOp.TheVariants as assigns
use Rattle.syntax_tree.specs.declared.statements.Else.TheOpen.{Else-F, Stmt-F}
use Rattle.syntax_tree.specs.declared.statements.Stmt.{Stmt}
use Rattle.syntax_tree.specs.Spans.{expr_span as source_span}
use Rattle.value_types.specs.declared.types.Ty.{Ty, out-Ty}
use Rattle.value_types.specs.declared.types.Ty.TheOpen as form
use Rattle.value_types.specs.Conversions.{Form}
use Rattle.element_tables.specs.declared.operators.Op.{Op}
use Rattle.element_tables.specs.declared.operators.Op.TheVariants as op
use Rattle.typed_tree.specs.declared.expressions.TypedExpr.{TypedExpr}
use Rattle.typed_tree.specs.declared.members.MemberKind.{MemberKind}
use Rattle.typed_tree.specs.declared.members.MemberKind.TheVariants as kinds
use Rattle.typed_tree.specs.declared.members.MemberRef.{MemberRef}
use Rattle.typed_tree.specs.declared.statements.StmtKind.{StmtKind}
use Rattle.typed_tree.specs.declared.statements.StmtKind.TheVariants as stmt_kinds
use Rattle.typed_tree.specs.declared.statements.Target.{Target}
use Rattle.typed_tree.specs.declared.statements.TypedBlock.{TypedBlock}
use Rattle.typed_tree.specs.declared.statements.TypedStmt.{TypedStmt}
use Rattle.typed_tree.specs.declared.members.Found.{Found}
use Rattle.typed_tree.specs.Members.{is_inside, assignable, member_found}
use Rattle.typed_tree.specs.Scopes.{ScopeValue}
use Rattle.typed_tree.specs.Typed.{expr_ty, typed_stmt, typed_block}
use Rattle.expr_rules.specs.declared.judged.Denoted.{Denoted}
use Rattle.expr_rules.specs.declared.judged.Judged.{Judged}
use Rattle.expr_rules.specs.declared.judged.Judged.TheVariants as judged
use Rattle.name_lookup.specs.declared.meanings.Meaning.{Meaning}
use Rattle.name_lookup.specs.declared.meanings.Meaning.TheVariants as meaning
use Rattle.expr_rules.specs.Denotations.{broken, denoted, given, on_ok}
use Rattle.expr_rules.specs.Layers.{ElseLayer, StmtLayer}
use Rattle.expr_rules.specs.Own.{fitted, operation_on, of_one}
use Rattle.expr_rules.specs.Paths.{gives_on_each}
use Rattle.expr_rules.specs.Targets.{target_of, property_of_target}

-- what a node of statements came to; nodes of statements come to nothing else
abbrev pub no_block : TypedBlock
no_block = typed_block [] (record { file = 0; start = 0; end = 0 })

abbrev pub block_given : Judged → TypedBlock
block_given (judged.Block block) = block
block_given _ = no_block

abbrev pub stmts_given : List Judged → List TypedStmt
stmts_given [] = []
stmts_given (judged.Stmt stmt ∷ xs) = stmt ∷ stmts_given xs
stmts_given (_ ∷ xs) = stmts_given xs

-- statements in braces
abbrev pub braces_own : Span → List Judged → Judged
braces_own span xs = judged.Block (typed_block (stmts_given xs) span)

-- assignments

-- a property may be assigned from a body; anything else isn't a matter of marks
abbrev pub may_assign_kind : Bool → MemberKind → Bool
may_assign_kind inside (kinds.Property mark t) = assignable inside mark
may_assign_kind inside _ = true

abbrev pub may_assign_found : ScopeValue → Option Found → Bool
may_assign_found s None = true
may_assign_found s (Some f) = may_assign_kind (is_inside s.site f.owner) f.kind

abbrev pub may_assign_member : ScopeValue → Option MemberRef → Bool
may_assign_member s None = true
may_assign_member s (Some member) = may_assign_found s (member_found s.outline s.site member)

abbrev pub may_assign : ScopeValue → Meaning → Bool
may_assign s (meaning.Value e) = may_assign_member s (property_of_target (target_of s e))
may_assign s _ = true

-- what is assigned: a callback or a function isn't before it is called, and a property has to be open to it
abbrev pub is_callable : Meaning → Bool
is_callable (meaning.Callable callee signature) = true
is_callable (meaning.Math function) = true
is_callable (meaning.Method m e) = true
is_callable _ = false

abbrev pub assigned_own : ScopeValue → Denoted → Result Judged Fault
assigned_own s d = if is_callable d.meaning then broken rules.NotCallable d.name
    else if may_assign s d.meaning then Ok (judged.Denoted d)
    else broken rules.Visibility d.name

abbrev pub assigned_target : ScopeValue → Meaning → Option Target
assigned_target s (meaning.Value e) = target_of s e
assigned_target s _ = None

abbrev pub changing : AssignOp → Option Op
changing assigns.Set = None
changing assigns.Add = Some op.Add
changing assigns.Sub = Some op.Sub
changing assigns.Mul = Some op.Mul
changing assigns.Div = Some op.Div

-- the value that is assigned: the right side, which stands at its place, or an operation on what is assigned, which has to fit there
abbrev pub assigned_value : Option Op → Span → TypedExpr → TypedExpr → Result TypedExpr Fault
assigned_value None span left right = Ok right
assigned_value (Some o) span left right = on_ok (operation_on false o span left right) (λ e. fitted (Some (expr_ty left)) span e)

abbrev pub assignment : Option Op → Span → Judged → Judged → Option Target → Result Judged Fault
assignment o span x y None = broken rules.NotAssignable span
assignment o span x y (Some target) = on_ok (assigned_value o span (given x) (given y)) (λ e. Ok (judged.Stmt (typed_stmt (stmt_kinds.Assign target e) span)))

-- of an assignment by `=` the right side is a further part, of another one a part
abbrev pub assigned_from : ScopeValue → AssignOp → Span → List Judged → List Judged → Result Judged Fault
assigned_from s o span (x ∷ []) (y ∷ []) = assignment (changing o) span x y (assigned_target s (denoted x).meaning)
assigned_from s o span (x ∷ y ∷ []) [] = assignment (changing o) span x y (assigned_target s (denoted x).meaning)
assigned_from s o span xs ys = Ok judged.Fresh

-- `if`, in a block of its own where it stands behind `else`
abbrev pub conditional : Span → Judged → Judged → Judged → TypedStmt
conditional span c b e = typed_stmt (stmt_kinds.If (given c) (block_given b) (block_given e)) span

abbrev pub if_own : Span → List Judged → Result Judged Fault
if_own span (c ∷ b ∷ e ∷ []) = Ok (judged.Stmt (conditional span c b e))
if_own span xs = Ok judged.Fresh

abbrev pub else_if_own : Span → List Judged → Result Judged Fault
else_if_own span (c ∷ b ∷ e ∷ []) = Ok (judged.Block (typed_block (conditional span c b e ∷ []) span))
else_if_own span xs = Ok judged.Fresh

abbrev pub otherwise_own : ElseLayer → List Judged → Result Judged Fault
otherwise_own Else-F.Nothing xs = Ok (judged.Block no_block)
otherwise_own (Else-F.ElseIf condition block otherwise span) xs = else_if_own span xs
otherwise_own (Else-F.ElseBlock block) xs = of_one (λ x. Ok x) xs

-- an expression at the end of a block that gives a value gives it; the value of any other is dropped
abbrev pub value_stmt : Form → Bool → TypedExpr → StmtKind
value_stmt form.Void ends e = stmt_kinds.Expr e
value_stmt _ true e = stmt_kinds.Return (Some e)
value_stmt _ false e = stmt_kinds.Expr e

abbrev pub return_own : Span → List Judged → Result Judged Fault
return_own span [] = Ok (judged.Stmt (typed_stmt (stmt_kinds.Return None) span))
return_own span (x ∷ xs) = Ok (judged.Stmt (typed_stmt (stmt_kinds.Return (Some (given x))) span))

abbrev pub statement_own : ScopeValue → Ty → Bool → StmtLayer → List Judged → List Judged → Result Judged Fault
statement_own s t ends (Stmt-F.If condition block otherwise span) xs ys = if_own span xs
statement_own s t ends (Stmt-F.Return value span) xs ys = return_own span xs
statement_own s t ends (Stmt-F.Empty span) xs ys = Ok (judged.Stmt (typed_stmt stmt_kinds.Empty span))
statement_own s t ends (Stmt-F.Expr e) xs ys = of_one (λ x. Ok (judged.Stmt (typed_stmt (value_stmt (out-Ty t) ends (given x)) (source_span e)))) xs
statement_own s t ends (Stmt-F.Assign left o right span) xs ys = assigned_from s o span xs ys

-- a block that gives a value does so on each path
abbrev pub lacks_value : Form → List Stmt → Bool
lacks_value form.Void stmts = false
lacks_value _ stmts = if gives_on_each stmts then false else true

abbrev pub body_own : Ty → List Stmt → Span → List Judged → Result Judged Fault
body_own t stmts span xs = if lacks_value (out-Ty t) stmts then broken rules.TypeMismatch span else of_one (λ x. Ok x) xs

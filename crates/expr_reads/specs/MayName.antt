-- What expressions, blocks, values and items may name, said once more as a relation: a case for each form and part.
use Rattle.std.specs.Prelude.{◌↔◌, ℕ, List, Some}
use Rattle.slint_base.specs.declared.faults.Span.{Span}
use Rattle.element_tables.specs.declared.functions.MathFunction.{MathFunction}
use Rattle.element_tables.specs.declared.operators.Op.{Op}
use Rattle.element_tables.specs.declared.operators.PrefixOp.{PrefixOp}
use Rattle.element_tables.specs.declared.functions.ValueMemberKind.{ValueMemberKind}
use Rattle.value_types.specs.declared.types.Ty.{Ty}
use Rattle.typed_tree.specs.Typed.{typed, typed_block, typed_field, typed_hole, typed_operand, typed_step, typed_stmt}
use Rattle.typed_tree.specs.declared.expressions.Callee.{Callee}
use Rattle.typed_tree.specs.declared.expressions.Callee.TheVariants as callees
use Rattle.typed_tree.specs.declared.expressions.ExprKind.TheVariants as exprs
use Rattle.typed_tree.specs.declared.expressions.StepKind.TheVariants as steps
use Rattle.typed_tree.specs.declared.expressions.TypedExpr.{TypedExpr}
use Rattle.typed_tree.specs.declared.expressions.TypedField.{TypedField}
use Rattle.typed_tree.specs.declared.expressions.TypedHole.{TypedHole}
use Rattle.typed_tree.specs.declared.expressions.TypedOperand.{TypedOperand}
use Rattle.typed_tree.specs.declared.expressions.TypedStep.{TypedStep}
use Rattle.typed_tree.specs.declared.members.MemberRef.{MemberRef}
use Rattle.typed_tree.specs.declared.statements.StmtKind.TheVariants as stmts
use Rattle.typed_tree.specs.declared.statements.Target.{Target}
use Rattle.typed_tree.specs.declared.statements.TypedBlock.{TypedBlock}
use Rattle.typed_tree.specs.declared.statements.TypedStmt.{TypedStmt}
use Rattle.typed_tree.specs.declared.statements.TypedValue.{TypedValue}
use Rattle.typed_tree.specs.declared.statements.TypedValue.TheVariants as values
use Rattle.finite_graphs.specs.Walks.{In}
use Rattle.expr_reads.specs.declared.names.Named.{Named}
use Rattle.expr_reads.specs.declared.names.Named.TheVariants as names
use Rattle.expr_reads.specs.Names.{named, named_block, named_value}

-- an expression may name this
pub data MayName : TypedExpr → Named → Type 0 where
  property : (m : MemberRef) (ty : Ty) (span : Span) → MayName (typed (exprs.Property m) ty span) (names.Property m)
  length_of : (m : MemberRef) (ty : Ty) (span : Span) → MayName (typed (exprs.PropertyLength m) ty span) (names.Property m)
  index : (m : MemberRef) (at : TypedExpr) (ty : Ty) (span : Span) {n : Named} → MayName at n → MayName (typed (exprs.PropertyItem m at) ty span) n
  item_of : (m : MemberRef) (at : TypedExpr) (ty : Ty) (span : Span) → MayName (typed (exprs.PropertyItem m at) ty span) (names.Property m)
  row_item : (element : ℕ) (ty : Ty) (span : Span) → MayName (typed (exprs.RowItem element) ty span) (names.RowItem element)
  row_number : (element : ℕ) (ty : Ty) (span : Span) → MayName (typed (exprs.RowNumber element) ty span) (names.RowNumber element)
  base : (e : TypedExpr) (path : List TypedStep) (ty : Ty) (span : Span) {n : Named} → MayName e n → MayName (typed (exprs.Part e path) ty span) n
  step : (e : TypedExpr) (path : List TypedStep) (ty : Ty) (span : Span) (at : TypedExpr) (part : Ty) {n : Named} → In (typed_step (steps.ToItem at) part) path → MayName at n
      → MayName (typed (exprs.Part e path) ty span) n
  asked : (member : ValueMemberKind) (e : TypedExpr) (ty : Ty) (span : Span) {n : Named} → MayName e n → MayName (typed (exprs.Ask member e) ty span) n
  field : (fields : List TypedField) (ty : Ty) (span : Span) (name : List ℕ) (e : TypedExpr) {n : Named} → In (typed_field name e) fields → MayName e n → MayName (typed (exprs.Struct fields) ty span) n
  item : (es : List TypedExpr) (ty : Ty) (span : Span) (e : TypedExpr) {n : Named} → In e es → MayName e n → MayName (typed (exprs.Array es) ty span) n
  converted : (e : TypedExpr) (ty : Ty) (span : Span) {n : Named} → MayName e n → MayName (typed (exprs.Convert e) ty span) n
  prefixed : (op : PrefixOp) (e : TypedExpr) (ty : Ty) (span : Span) {n : Named} → MayName e n → MayName (typed (exprs.Prefix op e) ty span) n
  first : (e : TypedExpr) (others : List TypedOperand) (ty : Ty) (span : Span) {n : Named} → MayName e n → MayName (typed (exprs.Chain e others) ty span) n
  operand : (e : TypedExpr) (others : List TypedOperand) (ty : Ty) (span : Span) (op : Op) (left : Ty) (right : TypedExpr) (result : Ty) {n : Named}
      → In (typed_operand op left right result) others → MayName right n → MayName (typed (exprs.Chain e others) ty span) n
  condition : (c taken other : TypedExpr) (ty : Ty) (span : Span) {n : Named} → MayName c n → MayName (typed (exprs.Choice c taken other) ty span) n
  if_true : (c taken other : TypedExpr) (ty : Ty) (span : Span) {n : Named} → MayName taken n → MayName (typed (exprs.Choice c taken other) ty span) n
  if_false : (c taken other : TypedExpr) (ty : Ty) (span : Span) {n : Named} → MayName other n → MayName (typed (exprs.Choice c taken other) ty span) n
  computed : (function : MathFunction) (es : List TypedExpr) (ty : Ty) (span : Span) (e : TypedExpr) {n : Named} → In e es → MayName e n → MayName (typed (exprs.Math function es) ty span) n
  hole : (text : List ℕ) (holes : List TypedHole) (ty : Ty) (span : Span) (e : TypedExpr) (behind : List ℕ) {n : Named} → In (typed_hole e behind) holes → MayName e n
      → MayName (typed (exprs.Template text holes) ty span) n
  argument : (callee : Callee) (es : List TypedExpr) (ty : Ty) (span : Span) (e : TypedExpr) {n : Named} → In e es → MayName e n → MayName (typed (exprs.Call callee es) ty span) n
  function : (m : MemberRef) (es : List TypedExpr) (ty : Ty) (span : Span) → MayName (typed (exprs.Call (callees.Function m) es) ty span) (names.Function m span)
  callback : (m : MemberRef) (es : List TypedExpr) (ty : Ty) (span : Span) → MayName (typed (exprs.Call (callees.Callback m) es) ty span) (names.Callback m span)

-- a statement may name this
pub data StmtMayName : TypedStmt → Named → Type 0 where
  tested : (c : TypedExpr) (taken other : TypedBlock) (span : Span) {n : Named} → MayName c n → StmtMayName (typed_stmt (stmts.If c taken other) span) n
  then_run : (c : TypedExpr) (list : List TypedStmt) (at : Span) (other : TypedBlock) (span : Span) (s : TypedStmt) {n : Named} → In s list → StmtMayName s n
      → StmtMayName (typed_stmt (stmts.If c (typed_block list at) other) span) n
  else_run : (c : TypedExpr) (taken : TypedBlock) (list : List TypedStmt) (at : Span) (span : Span) (s : TypedStmt) {n : Named} → In s list → StmtMayName s n
      → StmtMayName (typed_stmt (stmts.If c taken (typed_block list at)) span) n
  returned : (e : TypedExpr) (span : Span) {n : Named} → MayName e n → StmtMayName (typed_stmt (stmts.Return (Some e)) span) n
  run : (e : TypedExpr) (span : Span) {n : Named} → MayName e n → StmtMayName (typed_stmt (stmts.Expr e) span) n
  written_at : (target : Target) (value : TypedExpr) (span : Span) (at : TypedExpr) (part : Ty) {n : Named} → In (typed_step (steps.ToItem at) part) target.steps → MayName at n
      → StmtMayName (typed_stmt (stmts.Assign target value) span) n
  assigned : (target : Target) (value : TypedExpr) (span : Span) {n : Named} → MayName value n → StmtMayName (typed_stmt (stmts.Assign target value) span) n

-- a block may name this
pub data BlockMayName : TypedBlock → Named → Type 0 where
  stmt : (list : List TypedStmt) (span : Span) (s : TypedStmt) {n : Named} → In s list → StmtMayName s n → BlockMayName (typed_block list span) n

-- what is bound or run may name this
pub data ValueMayName : TypedValue → Named → Type 0 where
  of_expr : (e : TypedExpr) {n : Named} → MayName e n → ValueMayName (values.Expr e) n
  of_block : (b : TypedBlock) {n : Named} → BlockMayName b n → ValueMayName (values.Block b) n

-- an expression's list has just what it may name
abbrev pub ExprNamesAreExact : Type 0
ExprNamesAreExact = (e : TypedExpr) (n : Named) → MayName e n ↔ In n (named e)

abbrev pub BlockNamesAreExact : Type 0
BlockNamesAreExact = (b : TypedBlock) (n : Named) → BlockMayName b n ↔ In n (named_block b)

abbrev pub ValueNamesAreExact : Type 0
ValueNamesAreExact = (v : TypedValue) (n : Named) → ValueMayName v n ↔ In n (named_value v)

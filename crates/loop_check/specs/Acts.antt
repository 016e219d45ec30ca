-- The assignments and calls of expressions, statements and blocks, in the order of the text.
use Rattle.std.specs.Prelude.{List, [], ◌∷◌, ◌++◌, Option, Some, None}
use Rattle.std.specs.List.{flat_map}
use Rattle.slint_base.specs.declared.faults.Span.{Span}
use Rattle.typed_tree.specs.declared.expressions.Callee.{Callee}
use Rattle.typed_tree.specs.declared.expressions.Callee.TheVariants as callees
use Rattle.typed_tree.specs.declared.expressions.ExprKind.{ExprKind, fold-ExprKind}
use Rattle.typed_tree.specs.declared.expressions.ExprKind.TheOpen.{ExprKind-F, StepKind-F, TypedExpr-F, TypedField-F, TypedHole-F, TypedOperand-F, TypedStep-F}
use Rattle.typed_tree.specs.declared.expressions.TypedExpr.{TypedExpr, fold-TypedExpr}
use Rattle.typed_tree.specs.declared.expressions.TypedField.{TypedField, fold-TypedField}
use Rattle.typed_tree.specs.declared.expressions.TypedHole.{TypedHole, fold-TypedHole}
use Rattle.typed_tree.specs.declared.expressions.TypedOperand.{TypedOperand, fold-TypedOperand}
use Rattle.typed_tree.specs.declared.expressions.TypedStep.{TypedStep, fold-TypedStep}
use Rattle.typed_tree.specs.declared.members.ElementMember.TheVariants as element_member
use Rattle.typed_tree.specs.declared.members.MemberRef.{MemberRef}
use Rattle.typed_tree.specs.declared.members.MemberRef.TheVariants as member_ref
use Rattle.typed_tree.specs.declared.statements.StmtKind.{StmtKind, fold-StmtKind}
use Rattle.typed_tree.specs.declared.statements.StmtKind.TheOpen.{StmtKind-F, TypedBlock-F, TypedStmt-F}
use Rattle.typed_tree.specs.declared.statements.Target.{Target}
use Rattle.typed_tree.specs.declared.statements.TypedBlock.{TypedBlock, fold-TypedBlock}
use Rattle.typed_tree.specs.declared.statements.TypedStmt.{TypedStmt, fold-TypedStmt}
use Rattle.typed_tree.specs.declared.statements.TypedValue.{TypedValue}
use Rattle.typed_tree.specs.declared.statements.TypedValue.TheVariants as values
use Rattle.loop_check.specs.declared.acts.Act.{Act}
use Rattle.loop_check.specs.declared.acts.Home.TheVariants as homes
use Rattle.loop_check.specs.declared.acts.Routine.{Routine}

-- the declared callback or function that a member is; what is built in is none
abbrev pub declared_by : MemberRef → Option Routine
declared_by (member_ref.Element e (element_member.BuiltIn n)) = None
declared_by (member_ref.Element e (element_member.Declared c n)) = Some (record { home = homes.Component c; number = n })
declared_by (member_ref.Global g n) = Some (record { home = homes.Global g; number = n })

-- the declared callback or function that is called
abbrev pub routine_of : Callee → Option Routine
routine_of (callees.Function m) = declared_by m
routine_of (callees.Callback m) = declared_by m
routine_of (callees.Focus e) = None

abbrev pub call : Callee → Span → Act
call callee span = record { calls = routine_of callee; span = span }

abbrev pub assignment : Span → Act
assignment span = record { calls = None; span = span }

abbrev pub Acts : Type 0
Acts = List Act

abbrev pub all : List Acts → Acts
all = flat_map (λ xs. xs)

-- the acts of an expression: each call in it, with the stretch of the call
abbrev pub kind_layer : ExprKind-F (Span → Acts) Acts Acts Acts Acts Acts Acts → Span → Acts
kind_layer (ExprKind-F.Literal value) span = []
kind_layer (ExprKind-F.Parameter n) span = []
kind_layer (ExprKind-F.Property m) span = []
kind_layer (ExprKind-F.PropertyLength m) span = []
kind_layer (ExprKind-F.PropertyItem m at) span = at
kind_layer (ExprKind-F.RowItem n) span = []
kind_layer (ExprKind-F.RowNumber n) span = []
kind_layer (ExprKind-F.Part base steps) span = base ++ all steps
kind_layer (ExprKind-F.Ask m e) span = e
kind_layer (ExprKind-F.Struct fields) span = all fields
kind_layer (ExprKind-F.Array items) span = all items
kind_layer (ExprKind-F.Convert e) span = e
kind_layer (ExprKind-F.Prefix op e) span = e
kind_layer (ExprKind-F.Chain first operands) span = first ++ all operands
kind_layer (ExprKind-F.Choice condition first second) span = condition ++ (first ++ second)
kind_layer (ExprKind-F.Math function items) span = all items
kind_layer (ExprKind-F.Template text holes) span = all holes
kind_layer (ExprKind-F.Call callee arguments) span = call callee span ∷ all arguments

abbrev pub step_kind_layer : StepKind-F (Span → Acts) Acts Acts Acts Acts Acts Acts → Acts
step_kind_layer (StepKind-F.ToField name) = []
step_kind_layer (StepKind-F.ToItem at) = at

abbrev pub expr_layer : TypedExpr-F (Span → Acts) Acts Acts Acts Acts Acts Acts → Acts
expr_layer e = e.kind e.span

abbrev pub field_layer : TypedField-F (Span → Acts) Acts Acts Acts Acts Acts Acts → Acts
field_layer f = f.value

abbrev pub hole_layer : TypedHole-F (Span → Acts) Acts Acts Acts Acts Acts Acts → Acts
hole_layer h = h.value

abbrev pub operand_layer : TypedOperand-F (Span → Acts) Acts Acts Acts Acts Acts Acts → Acts
operand_layer o = o.right

abbrev pub step_layer : TypedStep-F (Span → Acts) Acts Acts Acts Acts Acts Acts → Acts
step_layer s = s.kind

abbrev pub acts_in_kind : ExprKind → Span → Acts
acts_in_kind = fold-ExprKind (Span → Acts) Acts Acts Acts Acts Acts Acts kind_layer step_kind_layer expr_layer field_layer hole_layer operand_layer step_layer

abbrev pub acts_in_expr : TypedExpr → Acts
acts_in_expr = fold-TypedExpr (Span → Acts) Acts Acts Acts Acts Acts Acts kind_layer step_kind_layer expr_layer field_layer hole_layer operand_layer step_layer

abbrev pub acts_in_field : TypedField → Acts
acts_in_field = fold-TypedField (Span → Acts) Acts Acts Acts Acts Acts Acts kind_layer step_kind_layer expr_layer field_layer hole_layer operand_layer step_layer

abbrev pub acts_in_hole : TypedHole → Acts
acts_in_hole = fold-TypedHole (Span → Acts) Acts Acts Acts Acts Acts Acts kind_layer step_kind_layer expr_layer field_layer hole_layer operand_layer step_layer

abbrev pub acts_in_operand : TypedOperand → Acts
acts_in_operand = fold-TypedOperand (Span → Acts) Acts Acts Acts Acts Acts Acts kind_layer step_kind_layer expr_layer field_layer hole_layer operand_layer step_layer

abbrev pub acts_in_step : TypedStep → Acts
acts_in_step = fold-TypedStep (Span → Acts) Acts Acts Acts Acts Acts Acts kind_layer step_kind_layer expr_layer field_layer hole_layer operand_layer step_layer

abbrev pub acts_in_optional : Option TypedExpr → Acts
acts_in_optional None = []
acts_in_optional (Some e) = acts_in_expr e

abbrev pub acts_in_target : Target → Acts
acts_in_target target = flat_map acts_in_step target.steps

-- the acts of a statement: an assignment is one, with the stretch of the statement, and so is each call in it
abbrev pub stmt_kind_layer : StmtKind-F (Span → Acts) Acts Acts → Span → Acts
stmt_kind_layer (StmtKind-F.If condition first second) span = acts_in_expr condition ++ (first ++ second)
stmt_kind_layer (StmtKind-F.Return value) span = acts_in_optional value
stmt_kind_layer StmtKind-F.Empty span = []
stmt_kind_layer (StmtKind-F.Expr e) span = acts_in_expr e
stmt_kind_layer (StmtKind-F.Assign target value) span = assignment span ∷ (acts_in_target target ++ acts_in_expr value)

abbrev pub block_layer : TypedBlock-F (Span → Acts) Acts Acts → Acts
block_layer b = all b.stmts

abbrev pub stmt_layer : TypedStmt-F (Span → Acts) Acts Acts → Acts
stmt_layer s = s.kind s.span

abbrev pub acts_in_stmt_kind : StmtKind → Span → Acts
acts_in_stmt_kind = fold-StmtKind (Span → Acts) Acts Acts stmt_kind_layer block_layer stmt_layer

abbrev pub acts_in_block : TypedBlock → Acts
acts_in_block = fold-TypedBlock (Span → Acts) Acts Acts stmt_kind_layer block_layer stmt_layer

abbrev pub acts_in_stmt : TypedStmt → Acts
acts_in_stmt = fold-TypedStmt (Span → Acts) Acts Acts stmt_kind_layer block_layer stmt_layer

-- the acts of what is bound or run
abbrev pub acts_in_value : TypedValue → Acts
acts_in_value (values.Expr e) = acts_in_expr e
acts_in_value (values.Block b) = acts_in_block b

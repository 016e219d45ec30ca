-- What expressions, statements, blocks and values can read or call, in the order of the text. Nothing is left out because a branch may not be taken.
use Rattle.std.specs.Prelude.{List, [], ◌∷◌, ◌++◌, Option, Some, None}
use Rattle.std.specs.List.{flat_map}
use Rattle.slint_base.specs.declared.faults.Span.{Span}
use Rattle.typed_tree.specs.declared.expressions.Callee.{Callee}
use Rattle.typed_tree.specs.declared.expressions.Callee.TheVariants as callees
use Rattle.typed_tree.specs.declared.expressions.ExprKind.{ExprKind, fold-ExprKind}
use Rattle.typed_tree.specs.declared.expressions.ExprKind.TheOpen.{ExprKind-F, StepKind-F, TypedExpr-F, TypedField-F, TypedHole-F, TypedOperand-F, TypedStep-F}
use Rattle.typed_tree.specs.declared.expressions.TypedExpr.{TypedExpr, fold-TypedExpr}
use Rattle.typed_tree.specs.declared.expressions.TypedField.{TypedField, fold-TypedField}
use Rattle.typed_tree.specs.declared.expressions.TypedHole.{TypedHole, fold-TypedHole}
use Rattle.typed_tree.specs.declared.expressions.TypedOperand.{TypedOperand, fold-TypedOperand}
use Rattle.typed_tree.specs.declared.expressions.TypedStep.{TypedStep, fold-TypedStep}
use Rattle.typed_tree.specs.declared.statements.StmtKind.{StmtKind, fold-StmtKind}
use Rattle.typed_tree.specs.declared.statements.StmtKind.TheOpen.{StmtKind-F, TypedBlock-F, TypedStmt-F}
use Rattle.typed_tree.specs.declared.statements.Target.{Target}
use Rattle.typed_tree.specs.declared.statements.TypedBlock.{TypedBlock, fold-TypedBlock}
use Rattle.typed_tree.specs.declared.statements.TypedStmt.{TypedStmt, fold-TypedStmt}
use Rattle.typed_tree.specs.declared.statements.TypedValue.{TypedValue}
use Rattle.typed_tree.specs.declared.statements.TypedValue.TheVariants as values
use Rattle.expr_reads.specs.declared.names.Named.{Named}
use Rattle.expr_reads.specs.declared.names.Named.TheVariants as names

abbrev pub Names : Type 0
Names = List Named

abbrev pub all : List Names → Names
all = flat_map (λ xs. xs)

-- what a call names beside its arguments; moving the focus reads nothing
abbrev pub called : Callee → Span → Names
called (callees.Function m) span = names.Function m span ∷ []
called (callees.Callback m) span = names.Callback m span ∷ []
called (callees.Focus e) span = []

-- a clause a form: what its parts name, and what it names itself behind them
abbrev pub kind_layer : ExprKind-F (Span → Names) Names Names Names Names Names Names → Span → Names
kind_layer (ExprKind-F.Literal value) span = []
kind_layer (ExprKind-F.Parameter n) span = []
kind_layer (ExprKind-F.Property m) span = names.Property m ∷ []
kind_layer (ExprKind-F.PropertyLength m) span = names.Property m ∷ []
kind_layer (ExprKind-F.PropertyItem m at) span = at ++ names.Property m ∷ []
kind_layer (ExprKind-F.RowItem n) span = names.RowItem n ∷ []
kind_layer (ExprKind-F.RowNumber n) span = names.RowNumber n ∷ []
kind_layer (ExprKind-F.Part base steps) span = base ++ all steps
kind_layer (ExprKind-F.Ask m e) span = e
kind_layer (ExprKind-F.Struct fields) span = all fields
kind_layer (ExprKind-F.Array items) span = all items
kind_layer (ExprKind-F.Convert e) span = e
kind_layer (ExprKind-F.Prefix op e) span = e
kind_layer (ExprKind-F.Chain first operands) span = first ++ all operands
kind_layer (ExprKind-F.Choice condition first second) span = condition ++ (first ++ second)
kind_layer (ExprKind-F.Math function items) span = all items
kind_layer (ExprKind-F.Template text holes) span = all holes
kind_layer (ExprKind-F.Call callee arguments) span = all arguments ++ called callee span

abbrev pub step_kind_layer : StepKind-F (Span → Names) Names Names Names Names Names Names → Names
step_kind_layer (StepKind-F.ToField name) = []
step_kind_layer (StepKind-F.ToItem at) = at

abbrev pub expr_layer : TypedExpr-F (Span → Names) Names Names Names Names Names Names → Names
expr_layer e = e.kind e.span

abbrev pub field_layer : TypedField-F (Span → Names) Names Names Names Names Names Names → Names
field_layer f = f.value

abbrev pub hole_layer : TypedHole-F (Span → Names) Names Names Names Names Names Names → Names
hole_layer h = h.value

abbrev pub operand_layer : TypedOperand-F (Span → Names) Names Names Names Names Names Names → Names
operand_layer o = o.right

abbrev pub step_layer : TypedStep-F (Span → Names) Names Names Names Names Names Names → Names
step_layer s = s.kind

abbrev pub named_kind : ExprKind → Span → Names
named_kind = fold-ExprKind (Span → Names) Names Names Names Names Names Names kind_layer step_kind_layer expr_layer field_layer hole_layer operand_layer step_layer

-- what an expression can read or call
abbrev pub named : TypedExpr → Names
named = fold-TypedExpr (Span → Names) Names Names Names Names Names Names kind_layer step_kind_layer expr_layer field_layer hole_layer operand_layer step_layer

abbrev pub named_field : TypedField → Names
named_field = fold-TypedField (Span → Names) Names Names Names Names Names Names kind_layer step_kind_layer expr_layer field_layer hole_layer operand_layer step_layer

abbrev pub named_hole : TypedHole → Names
named_hole = fold-TypedHole (Span → Names) Names Names Names Names Names Names kind_layer step_kind_layer expr_layer field_layer hole_layer operand_layer step_layer

abbrev pub named_operand : TypedOperand → Names
named_operand = fold-TypedOperand (Span → Names) Names Names Names Names Names Names kind_layer step_kind_layer expr_layer field_layer hole_layer operand_layer step_layer

abbrev pub named_step : TypedStep → Names
named_step = fold-TypedStep (Span → Names) Names Names Names Names Names Names kind_layer step_kind_layer expr_layer field_layer hole_layer operand_layer step_layer

abbrev pub named_optional : Option TypedExpr → Names
named_optional None = []
named_optional (Some e) = named e

-- the indices of what is assigned; itself it is written, not read
abbrev pub named_target : Target → Names
named_target target = flat_map named_step target.steps

-- a clause a form of statements
abbrev pub stmt_kind_layer : StmtKind-F Names Names Names → Names
stmt_kind_layer (StmtKind-F.If condition first second) = named condition ++ (first ++ second)
stmt_kind_layer (StmtKind-F.Return value) = named_optional value
stmt_kind_layer StmtKind-F.Empty = []
stmt_kind_layer (StmtKind-F.Expr e) = named e
stmt_kind_layer (StmtKind-F.Assign target value) = named_target target ++ named value

abbrev pub block_layer : TypedBlock-F Names Names Names → Names
block_layer b = all b.stmts

abbrev pub stmt_layer : TypedStmt-F Names Names Names → Names
stmt_layer s = s.kind

abbrev pub named_stmt_kind : StmtKind → Names
named_stmt_kind = fold-StmtKind Names Names Names stmt_kind_layer block_layer stmt_layer

-- what a block can read or call
abbrev pub named_block : TypedBlock → Names
named_block = fold-TypedBlock Names Names Names stmt_kind_layer block_layer stmt_layer

abbrev pub named_stmt : TypedStmt → Names
named_stmt = fold-TypedStmt Names Names Names stmt_kind_layer block_layer stmt_layer

-- what is bound or run can read or call
abbrev pub named_value : TypedValue → Names
named_value (values.Expr e) = named e
named_value (values.Block b) = named_block b

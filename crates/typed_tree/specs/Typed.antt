-- Typed expressions, statements and blocks, made and taken apart.
use Rattle.std.specs.Prelude.{ℕ, List, [], ◌∷◌, ◌++◌}
use Rattle.slint_base.specs.declared.faults.Span.{Span}
use Rattle.element_tables.specs.declared.operators.Op.{Op}
use Rattle.value_types.specs.declared.types.Ty.{Ty}
use Rattle.typed_tree.specs.declared.expressions.ExprKind.{ExprKind, out-ExprKind}
use Rattle.typed_tree.specs.declared.expressions.ExprKind.TheVariants as exprs
use Rattle.typed_tree.specs.declared.expressions.ExprKind.TheOpen.{ExprKind-F}
use Rattle.typed_tree.specs.declared.expressions.StepKind.{StepKind}
use Rattle.typed_tree.specs.declared.expressions.TypedExpr.{TypedExpr, out-TypedExpr, roll-TypedExpr}
use Rattle.typed_tree.specs.declared.expressions.TypedField.{TypedField, roll-TypedField}
use Rattle.typed_tree.specs.declared.expressions.TypedHole.{TypedHole, roll-TypedHole}
use Rattle.typed_tree.specs.declared.expressions.TypedOperand.{TypedOperand, roll-TypedOperand}
use Rattle.typed_tree.specs.declared.expressions.TypedStep.{TypedStep, out-TypedStep, roll-TypedStep}
use Rattle.typed_tree.specs.declared.statements.StmtKind.{StmtKind}
use Rattle.typed_tree.specs.declared.statements.TypedBlock.{TypedBlock, roll-TypedBlock}
use Rattle.typed_tree.specs.declared.statements.TypedStmt.{TypedStmt, roll-TypedStmt}

abbrev pub typed : ExprKind → Ty → Span → TypedExpr
typed kind ty span = roll-TypedExpr (record { kind = kind; ty = ty; span = span })

abbrev pub expr_kind : TypedExpr → ExprKind
expr_kind e = (out-TypedExpr e).kind

-- one level of what an expression does
abbrev pub KindLayer : Type 0
KindLayer = ExprKind-F ExprKind StepKind TypedExpr TypedField TypedHole TypedOperand TypedStep

abbrev pub kind_layer : TypedExpr → KindLayer
kind_layer e = out-ExprKind (expr_kind e)

abbrev pub expr_ty : TypedExpr → Ty
expr_ty e = (out-TypedExpr e).ty

abbrev pub expr_span : TypedExpr → Span
expr_span e = (out-TypedExpr e).span

abbrev pub typed_operand : Op → Ty → TypedExpr → Ty → TypedOperand
typed_operand op left right ty = roll-TypedOperand (record { op = op; left = left; right = right; ty = ty })

abbrev pub typed_field : List ℕ → TypedExpr → TypedField
typed_field name value = roll-TypedField (record { name = name; value = value })

abbrev pub typed_hole : TypedExpr → List ℕ → TypedHole
typed_hole value behind = roll-TypedHole (record { value = value; behind = behind })

abbrev pub typed_step : StepKind → Ty → TypedStep
typed_step kind ty = roll-TypedStep (record { kind = kind; ty = ty })

abbrev pub typed_stmt : StmtKind → Span → TypedStmt
typed_stmt kind span = roll-TypedStmt (record { kind = kind; span = span })

abbrev pub typed_block : List TypedStmt → Span → TypedBlock
typed_block stmts span = roll-TypedBlock (record { stmts = stmts; span = span })

-- one more step into a value; steps are kept side by side
abbrev pub further : TypedExpr → KindLayer → TypedStep → ExprKind
further e (ExprKind-F.Part base steps) step = exprs.Part base (steps ++ step ∷ [])
further e layer step = exprs.Part e (step ∷ [])

abbrev pub part_of : TypedExpr → TypedStep → Span → TypedExpr
part_of e step span = typed (further e (kind_layer e) step) (out-TypedStep step).ty span

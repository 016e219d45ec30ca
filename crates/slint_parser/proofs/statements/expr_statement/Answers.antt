use Rattle.slint_grammar.specs.Parts as parts
use Rattle.slint_parser.specs.Statements.{head_of}
use Rattle.slint_parser.proofs.ChosenStatements.{before_error, assigned, no_left_at, left_at, no_right}
use Rattle.slint_parser.proofs.statements.expr_statement.Goals as goal

pub returns-in_err-left : goal.returns-in_err-left
returns-in_err-left c =
    before_error parts.StmtEnd (parts.Open (head_of c.args.behind_if)) c.args.depth c.args.cursor.now c.expr.new.cursor _ c.from_residual.result c.from_residual.ensures.1
    (no_left_at c.args.behind_if c.args.depth c.args.cursor.now _ _ c.head.ensures c.requires.no_return c.in_err-left.ensures)

pub returns-in_err-right : goal.returns-in_err-right
returns-in_err-right c =
    before_error parts.StmtEnd (parts.Open (head_of c.args.behind_if)) c.args.depth c.args.cursor.now c.may_assign.new.cursor _ c.from_residual-in_err-right.result c.from_residual-in_err-right.ensures.1
    (no_right c.args.behind_if c.args.depth c.args.cursor.now c.expr.new.cursor c.in_ok-left.left _ c.requires.no_return
    (left_at c.args.behind_if c.args.depth c.args.cursor.now c.expr.new.cursor c.in_ok-left.left _ c.head.ensures c.in_ok-left.ensures) c.in_err-right.ensures)

pub returns : goal.returns
returns c =
    assigned c.args.behind_if c.args.depth c.args.cursor.now c.expr.new.cursor c.may_assign.new.cursor c.in_ok-left.left c.in_ok-right.right c.assign_or_expr.result c.requires.no_return
    (left_at c.args.behind_if c.args.depth c.args.cursor.now c.expr.new.cursor c.in_ok-left.left _ c.head.ensures c.in_ok-left.ensures) c.in_ok-right.ensures c.assign_or_expr.ensures

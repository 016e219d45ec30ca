use Rattle.slint_parser.proofs.ChosenStatements.{open_error, behind_error, stmt_read}
use Rattle.slint_parser.proofs.statements.closed_statement.Goals as goal

pub returns-in_err-stmt : goal.returns-in_err-stmt
returns-in_err-stmt c =
    open_error c.args.behind_if c.args.depth c.args.cursor.now c.requires.open_yet c.requires.no_semicolon c.requires.no_if c.open_statement.new.cursor _ c.from_residual.result c.from_residual.ensures.1 c.in_err-stmt.ensures

pub returns-in_err-behind : goal.returns-in_err-behind
returns-in_err-behind c =
    behind_error c.args.behind_if c.args.depth c.args.cursor.now c.requires.open_yet c.requires.no_semicolon c.requires.no_if c.open_statement.new.cursor c.statement_end.new.cursor c.in_ok-stmt.stmt _
    c.from_residual-in_err-behind.result c.from_residual-in_err-behind.ensures.1 c.in_ok-stmt.ensures c.in_err-behind.ensures

pub returns : goal.returns
returns c =
    stmt_read c.args.behind_if c.args.depth c.args.cursor.now c.requires.open_yet c.requires.no_semicolon c.requires.no_if c.open_statement.new.cursor c.statement_end.new.cursor c.in_ok-stmt.stmt c.in_ok-behind.behind
    c.in_ok-stmt.ensures c.in_ok-behind.ensures

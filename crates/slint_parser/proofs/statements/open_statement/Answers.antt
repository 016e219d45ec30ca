use Rattle.slint_parser.proofs.statements.open_statement.Goals as goal

pub returns-then-shows : goal.returns-then-shows
returns-then-shows c = c.return_statement.ensures c.args.behind_if

pub returns : goal.returns
returns c = c.expr_statement.ensures

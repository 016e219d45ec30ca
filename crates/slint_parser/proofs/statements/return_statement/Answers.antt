use Rattle.slint_grammar.specs.Parts as parts
use Rattle.slint_parser.specs.Statements.{head_of}
use Rattle.slint_parser.proofs.Among.{unlike}
use Rattle.slint_parser.proofs.ChosenStatements.{before_error, no_return, bare_return, returned_as, no_value}
use Rattle.slint_parser.proofs.statements.return_statement.Goals as goal

pub returns-in_err-word : goal.returns-in_err-word
returns-in_err-word c b =
    before_error parts.StmtEnd (parts.Open (head_of b)) c.args.depth c.args.cursor.now c.word.new.self _ c.from_residual.result c.from_residual.ensures.1
    (no_return b c.args.depth c.args.cursor.now _ c.requires.is_return c.in_err-word.ensures)

pub returns-then-ends : goal.returns-then-ends
returns-then-ends c b = bare_return b c.args.depth c.args.cursor.now c.word.new.self c.in_ok-word.word c.requires.is_return c.in_ok-word.ensures (c.ends.ensures.0 c.if-ends.true)

pub returns-in_err-expr : goal.returns-in_err-expr
returns-in_err-expr c b =
    before_error parts.StmtEnd (parts.Open (head_of b)) c.args.depth c.args.cursor.now c.expr.new.cursor _ c.from_residual-in_err-expr.result c.from_residual-in_err-expr.ensures.1
    (no_value b c.args.depth c.args.cursor.now c.word.new.self c.in_ok-word.word _ c.requires.is_return c.in_ok-word.ensures (unlike c.ends.result c.if-ends.false c.ends.ensures.1) c.in_err-expr.ensures)

pub returns : goal.returns
returns c b =
    returned_as b c.args.depth c.args.cursor.now c.word.new.self c.expr.new.cursor c.in_ok-word.word c.in_ok-expr.field-0 c.into_inner-value.result c.span_of.result c.join-span.result
    c.requires.is_return c.in_ok-word.ensures (unlike c.ends.result c.if-ends.false c.ends.ensures.1) c.in_ok-expr.ensures c.into_inner-value.ensures c.span_of.ensures c.join-span.ensures

use Rattle.slint_grammar.specs.Grammar.{Alt as alts}
use Rattle.slint_parser.proofs.Joining.{alt_error, took_by, end_all, and_one, and_deep, at_one, at_deep, past_one}
use Rattle.slint_parser.proofs.states.when.Goals as goal

pub returns-in_err-word : goal.returns-in_err-word
returns-in_err-word c =
    alt_error alts.when c.args.depth c.args.cursor.now c.word.new.self _ c.from_residual.result c.from_residual.ensures.1 (at_one c.in_err-word.ensures)

pub returns-in_err-condition : goal.returns-in_err-condition
returns-in_err-condition c =
    alt_error alts.when c.args.depth c.args.cursor.now c.expr.new.cursor _ c.from_residual-in_err-condition.result c.from_residual-in_err-condition.ensures.1 (past_one c.in_ok-word.ensures (at_deep c.args.depth c.in_err-condition.ensures))

pub returns : goal.returns
returns c =
    rw c.into_inner.ensures (took_by alts.when (and_one c.in_ok-word.ensures (and_deep c.args.depth c.in_ok-condition.ensures (end_all c.args.depth c.expr.new.cursor))))

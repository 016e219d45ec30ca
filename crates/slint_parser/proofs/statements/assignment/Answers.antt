use Rattle.slint_grammar.specs.Grammar.{Alt as alts}
use Rattle.slint_parser.proofs.Joining.{alt_error, took_by, end_all, and_same, and_deep, at_same, at_deep, past_same}
use Rattle.slint_parser.proofs.ChosenStatements.{at_sign}
use Rattle.slint_parser.proofs.statements.assignment.Goals as goal

pub returns-in_err-symbol : goal.returns-in_err-symbol
returns-in_err-symbol c =
    let sign = at_sign c.args.depth c.args.cursor.now c.args.sign c.args.op c.requires.is_sign in
    alt_error alts.assign c.args.depth c.args.cursor.now c.symbol.new.self _ c.from_residual.result c.from_residual.ensures.1 (at_same (sign.stuck _ c.in_err-symbol.ensures))

pub returns-in_err-right : goal.returns-in_err-right
returns-in_err-right c =
    let sign = at_sign c.args.depth c.args.cursor.now c.args.sign c.args.op c.requires.is_sign in
    alt_error alts.assign c.args.depth c.args.cursor.now c.expr.new.cursor _ c.from_residual-in_err-right.result c.from_residual-in_err-right.ensures.1
    (past_same (sign.took c.symbol.new.self c.in_ok-symbol.field-0 c.in_ok-symbol.ensures) (at_deep c.args.depth c.in_err-right.ensures))

pub returns : goal.returns
returns c =
    let sign = at_sign c.args.depth c.args.cursor.now c.args.sign c.args.op c.requires.is_sign in
    took_by alts.assign (and_same (sign.took c.symbol.new.self c.in_ok-symbol.field-0 c.in_ok-symbol.ensures) (and_deep c.args.depth c.in_ok-right.ensures (end_all c.args.depth c.expr.new.cursor)))

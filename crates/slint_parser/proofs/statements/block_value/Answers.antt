use Rattle.slint_grammar.specs.Grammar.{Alt as alts}
use Rattle.slint_parser.proofs.Joining.{alt_error, took_by, end_all, and_same, and_deep, at_same, at_deep, past_deep}
use Rattle.slint_parser.proofs.statements.block_value.Goals as goal

pub returns-in_err-block-clause-of_value : goal.returns-in_err-block-clause-of_value
returns-in_err-block-clause-of_value c = alt_error alts.block_value c.args.depth c.args.cursor.now c.block.new.cursor _ c.from_residual.result c.from_residual.ensures.1 (at_deep c.args.depth c.in_err-block.ensures)

pub returns-in_err-semicolon-clause-of_value : goal.returns-in_err-semicolon-clause-of_value
returns-in_err-semicolon-clause-of_value c =
    alt_error alts.block_value c.args.depth c.args.cursor.now c.may_semicolon.new.cursor _ c.from_residual-in_err-semicolon.result c.from_residual-in_err-semicolon.ensures.1 (past_deep c.args.depth c.in_ok-block.ensures (at_same c.in_err-semicolon.ensures))

pub returns-clause-of_value : goal.returns-clause-of_value
returns-clause-of_value c =
    rw c.or_end-end.ensures (took_by alts.block_value (and_deep c.args.depth c.in_ok-block.ensures (and_same c.in_ok-semicolon.ensures (end_all c.args.depth c.may_semicolon.new.cursor))))

pub returns-in_err-block-clause-of_run : goal.returns-in_err-block-clause-of_run
returns-in_err-block-clause-of_run c = alt_error alts.block_run c.args.depth c.args.cursor.now c.block.new.cursor _ c.from_residual.result c.from_residual.ensures.1 (at_deep c.args.depth c.in_err-block.ensures)

pub returns-in_err-semicolon-clause-of_run : goal.returns-in_err-semicolon-clause-of_run
returns-in_err-semicolon-clause-of_run c =
    alt_error alts.block_run c.args.depth c.args.cursor.now c.may_semicolon.new.cursor _ c.from_residual-in_err-semicolon.result c.from_residual-in_err-semicolon.ensures.1 (past_deep c.args.depth c.in_ok-block.ensures (at_same c.in_err-semicolon.ensures))

pub returns-clause-of_run : goal.returns-clause-of_run
returns-clause-of_run c =
    rw c.or_end-end.ensures (took_by alts.block_run (and_deep c.args.depth c.in_ok-block.ensures (and_same c.in_ok-semicolon.ensures (end_all c.args.depth c.may_semicolon.new.cursor))))

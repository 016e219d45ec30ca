use Rattle.slint_grammar.specs.Grammar.{Alt as alts}
use Rattle.slint_parser.proofs.Joining.{alt_error, took_by, end_all, and_same, at_same}
use Rattle.slint_parser.proofs.leaves.function_item.Goals as goal

pub returns-in_err-function : goal.returns-in_err-function
returns-in_err-function c =
    alt_error alts.function_item c.args.depth c.args.cursor.now c.function.new.cursor _ c.from_residual.result c.from_residual.ensures.1 (at_same c.in_err-function.ensures)

pub returns : goal.returns
returns c =
    took_by alts.function_item (and_same c.in_ok-function.ensures (end_all c.args.depth c.function.new.cursor))

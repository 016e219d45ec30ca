use Rattle.slint_grammar.specs.Grammar.{Alt as alts}
use Rattle.slint_parser.proofs.Joining.{alt_error, took_by, end_all, and_same, at_same}
use Rattle.slint_parser.proofs.leaves.callback_item.Goals as goal

pub returns-in_err-callback : goal.returns-in_err-callback
returns-in_err-callback c =
    alt_error alts.callback_item c.args.depth c.args.cursor.now c.callback.new.cursor _ c.from_residual.result c.from_residual.ensures.1 (at_same c.in_err-callback.ensures)

pub returns : goal.returns
returns c =
    took_by alts.callback_item (and_same c.in_ok-callback.ensures (end_all c.args.depth c.callback.new.cursor))

use Rattle.slint_grammar.specs.Grammar.{Alt as alts}
use Rattle.slint_parser.proofs.Joining.{alt_error, took_by, end_all, and_same, at_same}
use Rattle.slint_parser.proofs.leaves.handler_item.Goals as goal

pub returns-in_err-handler : goal.returns-in_err-handler
returns-in_err-handler c =
    alt_error alts.handler_item c.args.depth c.args.cursor.now c.handler.new.cursor _ c.from_residual.result c.from_residual.ensures.1 (at_same c.in_err-handler.ensures)

pub returns : goal.returns
returns c =
    took_by alts.handler_item (and_same c.in_ok-handler.ensures (end_all c.args.depth c.handler.new.cursor))

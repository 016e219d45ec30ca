use Rattle.slint_grammar.specs.Grammar.{Alt as alts}
use Rattle.slint_parser.proofs.Joining.{alt_error, took_by, end_all, and_one, and_same, at_one, at_same, past_one, past_same}
use Rattle.slint_parser.proofs.callbacks.linked_callback.Goals as goal

pub returns-in_err-symbol : goal.returns-in_err-symbol
returns-in_err-symbol c =
    alt_error alts.linked_callback c.args.depth c.args.cursor.now c.symbol.new.self _ c.from_residual.result c.from_residual.ensures.1 (at_one c.in_err-symbol.ensures)

pub returns-in_err-path : goal.returns-in_err-path
returns-in_err-path c =
    alt_error alts.linked_callback c.args.depth c.args.cursor.now c.path.new.cursor _ c.from_residual-in_err-path.result c.from_residual-in_err-path.ensures.1 (past_one c.in_ok-symbol.ensures (at_same c.in_err-path.ensures))

pub returns-in_err-end : goal.returns-in_err-end
returns-in_err-end c =
    alt_error alts.linked_callback c.args.depth c.args.cursor.now c.symbol-2.new.self _ c.from_residual-in_err-end.result c.from_residual-in_err-end.ensures.1 (past_one c.in_ok-symbol.ensures (past_same c.in_ok-path.ensures (at_one c.in_err-end.ensures)))

pub returns : goal.returns
returns c =
    took_by alts.linked_callback (and_one c.in_ok-symbol.ensures (and_same c.in_ok-path.ensures (and_one c.in_ok-end.ensures (end_all c.args.depth c.symbol-2.new.self))))

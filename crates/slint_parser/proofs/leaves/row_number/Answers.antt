use Rattle.slint_grammar.specs.Grammar.{Alt as alts}
use Rattle.slint_parser.proofs.Joining.{alt_error, took_by, end_all, and_one, at_one, past_one}
use Rattle.slint_parser.proofs.leaves.row_number.Goals as goal

pub returns-in_err-symbol : goal.returns-in_err-symbol
returns-in_err-symbol c =
    alt_error alts.row_number c.args.depth c.args.cursor.now c.symbol.new.self _ c.from_residual.result c.from_residual.ensures.1 (at_one c.in_err-symbol.ensures)

pub returns-in_err-name : goal.returns-in_err-name
returns-in_err-name c =
    alt_error alts.row_number c.args.depth c.args.cursor.now c.name.new.self _ c.from_residual-in_err-name.result c.from_residual-in_err-name.ensures.1 (past_one c.in_ok-symbol.ensures (at_one c.in_err-name.ensures))

pub returns-in_err-symbol-2 : goal.returns-in_err-symbol-2
returns-in_err-symbol-2 c =
    alt_error alts.row_number c.args.depth c.args.cursor.now c.symbol-2.new.self _ c.from_residual-in_err-symbol-2.result c.from_residual-in_err-symbol-2.ensures.1 (past_one c.in_ok-symbol.ensures (past_one c.in_ok-name.ensures (at_one c.in_err-symbol-2.ensures)))

pub returns : goal.returns
returns c =
    took_by alts.row_number (and_one c.in_ok-symbol.ensures (and_one c.in_ok-name.ensures (and_one c.in_ok-symbol-2.ensures (end_all c.args.depth c.symbol-2.new.self))))

use Rattle.slint_grammar.specs.Grammar.{Alt as alts}
use Rattle.slint_parser.proofs.Joining.{alt_error, took_by, end_all, and_one, and_deep, at_one, at_deep, past_one}
use Rattle.slint_parser.proofs.callbacks.result_type.Goals as goal

pub returns-in_err-symbol : goal.returns-in_err-symbol
returns-in_err-symbol c =
    alt_error alts.result c.args.depth c.args.cursor.now c.symbol.new.self _ c.from_residual.result c.from_residual.ensures.1 (at_one c.in_err-symbol.ensures)

pub returns-in_err-ty : goal.returns-in_err-ty
returns-in_err-ty c =
    alt_error alts.result c.args.depth c.args.cursor.now c.type_name.new.cursor _ c.from_residual-in_err-ty.result c.from_residual-in_err-ty.ensures.1 (past_one c.in_ok-symbol.ensures (at_deep c.args.depth c.in_err-ty.ensures))

pub returns : goal.returns
returns c =
    took_by alts.result (and_one c.in_ok-symbol.ensures (and_deep c.args.depth c.in_ok-ty.ensures (end_all c.args.depth c.type_name.new.cursor)))

use Rattle.slint_grammar.specs.Grammar.{Alt as alts}
use Rattle.slint_parser.proofs.Joining.{alt_error, took_by, end_all, and_one, and_same, at_one, at_same, past_same}
use Rattle.slint_parser.proofs.callbacks.signature.Goals as goal

pub returns-in_err-parameters : goal.returns-in_err-parameters
returns-in_err-parameters c =
    alt_error alts.signature c.args.depth c.args.cursor.now c.may_parameters.new.cursor _ c.from_residual.result c.from_residual.ensures.1 (at_same c.in_err-parameters.ensures)

pub returns-in_err-returned : goal.returns-in_err-returned
returns-in_err-returned c =
    alt_error alts.signature c.args.depth c.args.cursor.now c.may_result.new.cursor _ c.from_residual-in_err-returned.result c.from_residual-in_err-returned.ensures.1 (past_same c.in_ok-parameters.ensures (at_same c.in_err-returned.ensures))

pub returns-in_err-end : goal.returns-in_err-end
returns-in_err-end c =
    alt_error alts.signature c.args.depth c.args.cursor.now c.symbol.new.self _ c.from_residual-in_err-end.result c.from_residual-in_err-end.ensures.1 (past_same c.in_ok-parameters.ensures (past_same c.in_ok-returned.ensures (at_one c.in_err-end.ensures)))

pub returns : goal.returns
returns c =
    took_by alts.signature (and_same c.in_ok-parameters.ensures (and_same c.in_ok-returned.ensures (and_one c.in_ok-end.ensures (end_all c.args.depth c.symbol.new.self))))

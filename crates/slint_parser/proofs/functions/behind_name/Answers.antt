use Rattle.std.proofs.Common.{refl}
use Rattle.slint_parser.proofs.Joining.{end_all, and_one, and_same, and_deep, at_one, at_same, at_deep, past_one, past_same}
use Rattle.slint_parser.proofs.ChosenMembers as chosen
use Rattle.slint_parser.proofs.functions.behind_name.Goals as goal

pub returns-in_err-symbol : goal.returns-in_err-symbol
returns-in_err-symbol c =
    chosen.rest_error c.args.is_pure c.args.access c.args.name c.args.depth c.args.cursor.now c.symbol.new.self _ c.from_residual.result c.from_residual.ensures.1 (at_one c.in_err-symbol.ensures)

pub returns-in_err-parameters : goal.returns-in_err-parameters
returns-in_err-parameters c =
    chosen.rest_error c.args.is_pure c.args.access c.args.name c.args.depth c.args.cursor.now c.fields.new.cursor _ c.from_residual-in_err-parameters.result c.from_residual-in_err-parameters.ensures.1 (past_one c.in_ok-symbol.ensures (at_same (c.in_err-parameters.ensures.of_function refl)))

pub returns-in_err-returned : goal.returns-in_err-returned
returns-in_err-returned c =
    chosen.rest_error c.args.is_pure c.args.access c.args.name c.args.depth c.args.cursor.now c.may_result.new.cursor _ c.from_residual-in_err-returned.result c.from_residual-in_err-returned.ensures.1 (past_one c.in_ok-symbol.ensures (past_same (c.in_ok-parameters.ensures.of_function refl) (at_same c.in_err-returned.ensures)))

pub returns-in_err-body : goal.returns-in_err-body
returns-in_err-body c =
    chosen.rest_error c.args.is_pure c.args.access c.args.name c.args.depth c.args.cursor.now c.block.new.cursor _ c.from_residual-in_err-body.result c.from_residual-in_err-body.ensures.1 (past_one c.in_ok-symbol.ensures (past_same (c.in_ok-parameters.ensures.of_function refl) (past_same c.in_ok-returned.ensures (at_deep c.args.depth c.in_err-body.ensures))))

pub returns : goal.returns
returns c =
    (_, (and_one c.in_ok-symbol.ensures (and_same (c.in_ok-parameters.ensures.of_function refl) (and_same c.in_ok-returned.ensures (and_deep c.args.depth c.in_ok-body.ensures (end_all c.args.depth c.block.new.cursor))))), λ word. refl)

use Rattle.std.proofs.Common.{refl}
use Rattle.slint_parser.proofs.Joining.{end_all, and_one, and_same, and_deep, at_one, at_same, at_deep, past_one, past_deep}
use Rattle.slint_parser.proofs.ChosenMembers as chosen
use Rattle.slint_parser.proofs.properties.typed_property.Goals as goal

pub returns-in_err-symbol : goal.returns-in_err-symbol
returns-in_err-symbol c =
    chosen.typed_error c.args.mark c.args.head c.args.depth c.args.cursor.now c.symbol.new.self _ c.from_residual.result c.from_residual.ensures.1 (at_one c.in_err-symbol.ensures)

pub returns-in_err-ty : goal.returns-in_err-ty
returns-in_err-ty c =
    chosen.typed_error c.args.mark c.args.head c.args.depth c.args.cursor.now c.type_name.new.cursor _ c.from_residual-in_err-ty.result c.from_residual-in_err-ty.ensures.1 (past_one c.in_ok-symbol.ensures (at_deep c.args.depth c.in_err-ty.ensures))

pub returns-in_err-symbol-2 : goal.returns-in_err-symbol-2
returns-in_err-symbol-2 c =
    chosen.typed_error c.args.mark c.args.head c.args.depth c.args.cursor.now c.symbol-2.new.self _ c.from_residual-in_err-symbol-2.result c.from_residual-in_err-symbol-2.ensures.1 (past_one c.in_ok-symbol.ensures (past_deep c.args.depth c.in_ok-ty.ensures (at_one c.in_err-symbol-2.ensures)))

pub returns-in_err-name : goal.returns-in_err-name
returns-in_err-name c =
    chosen.typed_error c.args.mark c.args.head c.args.depth c.args.cursor.now c.name.new.self _ c.from_residual-in_err-name.result c.from_residual-in_err-name.ensures.1 (past_one c.in_ok-symbol.ensures (past_deep c.args.depth c.in_ok-ty.ensures (past_one c.in_ok-symbol-2.ensures (at_one c.in_err-name.ensures))))

pub returns-in_err-value : goal.returns-in_err-value
returns-in_err-value c =
    chosen.typed_error c.args.mark c.args.head c.args.depth c.args.cursor.now c.property_end.new.cursor _ c.from_residual-in_err-value.result c.from_residual-in_err-value.ensures.1 (past_one c.in_ok-symbol.ensures (past_deep c.args.depth c.in_ok-ty.ensures (past_one c.in_ok-symbol-2.ensures (past_one c.in_ok-name.ensures (at_same c.in_err-value.ensures)))))

pub returns : goal.returns
returns c =
    rw c.join-span.ensures (_, (and_one c.in_ok-symbol.ensures (and_deep c.args.depth c.in_ok-ty.ensures (and_one c.in_ok-symbol-2.ensures (and_one c.in_ok-name.ensures (and_same c.in_ok-value.ensures (end_all c.args.depth c.property_end.new.cursor)))))), refl)

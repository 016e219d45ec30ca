use Rattle.std.proofs.Common.{refl}
use Rattle.slint_parser.proofs.Among.{unlike}
use Rattle.slint_parser.proofs.ChosenStatements.{last_took, last_error, closed_error}
use Rattle.slint_parser.proofs.statements.statement_end.Goals as goal

pub returns-in_err-symbol : goal.returns-in_err-symbol
returns-in_err-symbol c =
    last_error c.args.depth c.args.cursor.now c.symbol.new.self _ c.from_residual.result c.from_residual.ensures.1 (c.sees.ensures.0 c.if-sees.true) c.in_err-symbol.ensures

pub returns-then-sees : goal.returns-then-sees
returns-then-sees c = last_took c.args.depth c.args.cursor.now c.symbol.new.self c.in_ok-symbol.field-0 (c.sees.ensures.0 c.if-sees.true) c.in_ok-symbol.ensures

pub returns-in_err-symbol-2 : goal.returns-in_err-symbol-2
returns-in_err-symbol-2 c =
    closed_error c.args.depth c.args.cursor.now c.symbol-2.new.self _ c.from_residual-in_err-symbol-2.result c.from_residual-in_err-symbol-2.ensures.1
    (unlike c.sees.result c.if-sees.false c.sees.ensures.1) c.in_err-symbol-2.ensures

pub returns : goal.returns
returns c = (refl, unlike c.sees.result c.if-sees.false c.sees.ensures.1, (c.in_ok-symbol-2.field-0, c.in_ok-symbol-2.ensures))

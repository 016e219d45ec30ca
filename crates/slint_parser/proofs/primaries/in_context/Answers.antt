use Rattle.std.proofs.Common.{refl}
use Rattle.slint_grammar.specs.Grammar.{Alt as alts}
use Rattle.slint_parser.proofs.Joining.{took_as, and_one, end_all, at_one, past_one, alt_error}
use Rattle.slint_parser.proofs.primaries.in_context.Goals as goal

pub returns-in_err-context : goal.returns-in_err-context
returns-in_err-context c =
    alt_error alts.tr_context c.args.depth c.args.cursor.now c.text.new.self _ c.from_residual.result c.from_residual.ensures.1 (at_one c.in_err-context.ensures)

pub returns-in_err-symbol : goal.returns-in_err-symbol
returns-in_err-symbol c =
    alt_error alts.tr_context c.args.depth c.args.cursor.now c.symbol.new.self _ c.from_residual-in_err-symbol.result c.from_residual-in_err-symbol.ensures.1 (past_one c.in_ok-context.ensures (at_one c.in_err-symbol.ensures))

pub returns-in_err-text : goal.returns-in_err-text
returns-in_err-text c =
    alt_error alts.tr_context c.args.depth c.args.cursor.now c.text-2.new.self _ c.from_residual-in_err-text.result c.from_residual-in_err-text.ensures.1 (past_one c.in_ok-context.ensures (past_one c.in_ok-symbol.ensures (at_one c.in_err-text.ensures)))

pub returns : goal.returns
returns c =
    took_as alts.tr_context (and_one c.in_ok-context.ensures (and_one c.in_ok-symbol.ensures (and_one c.in_ok-text.ensures (end_all c.args.depth c.text-2.new.self)))) refl

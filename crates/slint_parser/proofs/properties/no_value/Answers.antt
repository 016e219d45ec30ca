use Rattle.slint_grammar.specs.Grammar.{Alt as alts}
use Rattle.slint_parser.proofs.Joining.{alt_error, took_by, end_all, and_one, at_one}
use Rattle.slint_parser.proofs.properties.no_value.Goals as goal

pub returns-in_err-symbol : goal.returns-in_err-symbol
returns-in_err-symbol c =
    alt_error alts.no_value c.args.depth c.args.cursor.now c.symbol.new.self _ c.from_residual.result c.from_residual.ensures.1 (at_one c.in_err-symbol.ensures)

pub returns : goal.returns
returns c =
    took_by alts.no_value (and_one c.in_ok-symbol.ensures (end_all c.args.depth c.symbol.new.self))

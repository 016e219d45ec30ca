use Rattle.std.proofs.Common.{refl}
use Rattle.slint_grammar.specs.Grammar.{Alt as alts}
use Rattle.slint_parser.proofs.Joining.{took_as, and_one, and_same, end_all, at_one, at_same, past_one, alt_error}
use Rattle.slint_parser.proofs.Links as links
use Rattle.slint_parser.proofs.grammar.Grammar.call.Goals as goal

pub returns-in_err-open : goal.returns-in_err-open
returns-in_err-open g c =
    alt_error alts.call c.args.self.now.depth c.args.cursor.now c.symbol.new.self _ c.from_residual.result c.from_residual.ensures.1 (at_one c.in_err-open.ensures)

pub returns-in_err-arguments : goal.returns-in_err-arguments
returns-in_err-arguments g c =
    alt_error alts.call c.args.self.now.depth c.args.cursor.now c.listed.new.cursor _ c.from_residual-in_err-arguments.result c.from_residual-in_err-arguments.ensures.1 (past_one c.in_ok-open.ensures (at_same (c.in_err-arguments.ensures.arguments refl)))

pub returns : goal.returns
returns g c =
    took_as alts.call (and_one c.in_ok-open.ensures (and_same (c.in_ok-arguments.ensures.arguments refl) (end_all c.args.self.now.depth c.listed.new.cursor))) (links.call_made _ _ c.join.result c.join.ensures)

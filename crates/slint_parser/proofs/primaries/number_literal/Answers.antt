use Rattle.std.proofs.Common.{sym}
use Rattle.slint_grammar.specs.Grammar.{Alt as alts}
use Rattle.slint_parser.proofs.Joining.{took_as, and_one, end_all, at_one, alt_error, alt_memory}
use Rattle.slint_parser.proofs.primaries.number_literal.Goals as goal

pub returns-in_err-number : goal.returns-in_err-number
returns-in_err-number c h = alt_error (alts.number_literal {h = h}) c.args.depth c.args.cursor.now c.number.new.self _ c.from_residual.result c.from_residual.ensures.1 (at_one c.in_err-number.ensures)

pub returns-in_err-new : goal.returns-in_err-new
returns-in_err-new c h = alt_memory (alts.number_literal {h = h}) c.args.depth c.args.cursor.now c.number.new.self c.from_residual-in_err-new.result c.from_residual-in_err-new.ensures.1

pub returns : goal.returns
returns c h = took_as (alts.number_literal {h = h}) (and_one c.in_ok-number.ensures (end_all c.args.depth c.number.new.self)) (sym c.in_ok-new.ensures)

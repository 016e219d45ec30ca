use Rattle.std.proofs.Common.{sym}
use Rattle.slint_grammar.specs.Grammar.{Alt as alts}
use Rattle.slint_parser.proofs.Joining.{took_as, and_one, end_all, at_one, alt_error, alt_memory}
use Rattle.slint_parser.proofs.primaries.colour_literal.Goals as goal

pub returns-in_err-colour : goal.returns-in_err-colour
returns-in_err-colour c h = alt_error (alts.colour_literal {h = h}) c.args.depth c.args.cursor.now c.colour.new.self _ c.from_residual.result c.from_residual.ensures.1 (at_one c.in_err-colour.ensures)

pub returns-in_err-new : goal.returns-in_err-new
returns-in_err-new c h = alt_memory (alts.colour_literal {h = h}) c.args.depth c.args.cursor.now c.colour.new.self c.from_residual-in_err-new.result c.from_residual-in_err-new.ensures.1

pub returns : goal.returns
returns c h = took_as (alts.colour_literal {h = h}) (and_one c.in_ok-colour.ensures (end_all c.args.depth c.colour.new.self)) (sym c.in_ok-new.ensures)

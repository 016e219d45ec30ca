use Rattle.std.proofs.Common.{sym}
use Rattle.slint_grammar.specs.Grammar.{Alt as alts}
use Rattle.slint_parser.proofs.Joining.{took_as, and_one, end_all, at_one, alt_error, alt_memory}
use Rattle.slint_parser.proofs.primaries.text_literal.Goals as goal

pub returns-in_err-quoted : goal.returns-in_err-quoted
returns-in_err-quoted c h = alt_error (alts.text_literal {h = h}) c.args.depth c.args.cursor.now c.text.new.self _ c.from_residual.result c.from_residual.ensures.1 (at_one c.in_err-quoted.ensures)

pub returns-in_err-new : goal.returns-in_err-new
returns-in_err-new c h = alt_memory (alts.text_literal {h = h}) c.args.depth c.args.cursor.now c.text.new.self c.from_residual-in_err-new.result c.from_residual-in_err-new.ensures.1

pub returns : goal.returns
returns c h = took_as (alts.text_literal {h = h}) (and_one c.in_ok-quoted.ensures (end_all c.args.depth c.text.new.self)) (sym c.in_ok-new.ensures)

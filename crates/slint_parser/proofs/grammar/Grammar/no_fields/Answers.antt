use Rattle.std.proofs.Common.{sym, ap}
use Rattle.slint_lexer.specs.declared.tokens.Symbol.TheVariants as symbols
use Rattle.slint_grammar.specs.Parts.{may_be_empty}
use Rattle.slint_grammar.specs.Grammar.{Alt as alts}
use Rattle.slint_parser.proofs.Joining.{took_as, and_one, end_all, at_one, alt_error}
use Rattle.slint_parser.proofs.Links as links
use Rattle.slint_parser.proofs.grammar.Grammar.no_fields.Goals as goal

pub returns-in_err-end : goal.returns-in_err-end
returns-in_err-end g c h may = alt_error (alts.no_fields {h = h}) c.args.self.now.depth c.args.cursor.now c.symbol.new.self _ c.from_residual.result c.from_residual.ensures.1 (at_one (links.stuck_where (may_be_empty h) symbols.CloseBrace c.args.self.now.depth c.args.cursor.now _ may c.in_err-end.ensures))

pub returns : goal.returns
returns g c h may = took_as (alts.no_fields {h = h}) (and_one (links.one_where (may_be_empty h) symbols.CloseBrace c.args.self.now.depth c.args.cursor.now c.symbol.new.self c.in_ok-end.end may c.in_ok-end.ensures) (end_all c.args.self.now.depth c.symbol.new.self)) (ap (λ z. (z, c.in_ok-end.end)) (sym c.new.ensures))

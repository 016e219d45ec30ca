use Rattle.slint_grammar.specs.Grammar.{Alt as alts}
use Rattle.slint_parser.proofs.Joining.{took_as, and_one, and_deep, end_all, at_one, at_deep, past_one, past_deep, alt_error, alt_memory}
use Rattle.slint_parser.proofs.Links as links
use Rattle.slint_parser.proofs.grammar.Grammar.parenthesized.Goals as goal

pub returns-in_err-open : goal.returns-in_err-open
returns-in_err-open g c h =
    alt_error (alts.paren {h = h}) c.args.self.now.depth c.args.cursor.now c.symbol.new.self _ c.from_residual.result c.from_residual.ensures.1 (at_one c.in_err-open.ensures)

pub returns-in_err-inner : goal.returns-in_err-inner
returns-in_err-inner g c h =
    alt_error (alts.paren {h = h}) c.args.self.now.depth c.args.cursor.now c.expr.new.cursor _ c.from_residual-in_err-inner.result c.from_residual-in_err-inner.ensures.1 (past_one c.in_ok-open.ensures (at_deep c.args.self.now.depth c.in_err-inner.ensures))

pub returns-in_err-close : goal.returns-in_err-close
returns-in_err-close g c h =
    alt_error (alts.paren {h = h}) c.args.self.now.depth c.args.cursor.now c.symbol-2.new.self _ c.from_residual-in_err-close.result c.from_residual-in_err-close.ensures.1 (past_one c.in_ok-open.ensures (past_deep c.args.self.now.depth c.in_ok-inner.ensures (at_one c.in_err-close.ensures)))

pub returns-in_err-new : goal.returns-in_err-new
returns-in_err-new g c h =
    alt_memory (alts.paren {h = h}) c.args.self.now.depth c.args.cursor.now c.symbol-2.new.self c.from_residual-in_err-new.result c.from_residual-in_err-new.ensures.1

pub returns : goal.returns
returns g c h =
    took_as (alts.paren {h = h}) (and_one c.in_ok-open.ensures (and_deep c.args.self.now.depth c.in_ok-inner.ensures (and_one c.in_ok-close.ensures (end_all c.args.self.now.depth c.symbol-2.new.self)))) (links.paren_made c.in_ok-inner.inner c.in_ok-new.field-0 _ c.join.result c.join.ensures c.in_ok-new.ensures)

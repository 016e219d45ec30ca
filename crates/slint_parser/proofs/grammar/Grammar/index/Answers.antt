use Rattle.slint_grammar.specs.Grammar.{Alt as alts}
use Rattle.slint_parser.proofs.Joining.{took_as, and_one, and_deep, end_all, at_one, at_deep, past_one, past_deep, alt_error}
use Rattle.slint_parser.proofs.Links as links
use Rattle.slint_parser.proofs.grammar.Grammar.index.Goals as goal

pub returns-in_err-open : goal.returns-in_err-open
returns-in_err-open g c =
    alt_error alts.index c.args.self.now.depth c.args.cursor.now c.symbol.new.self _ c.from_residual.result c.from_residual.ensures.1 (at_one c.in_err-open.ensures)

pub returns-in_err-at : goal.returns-in_err-at
returns-in_err-at g c =
    alt_error alts.index c.args.self.now.depth c.args.cursor.now c.expr.new.cursor _ c.from_residual-in_err-at.result c.from_residual-in_err-at.ensures.1 (past_one c.in_ok-open.ensures (at_deep c.args.self.now.depth c.in_err-at.ensures))

pub returns-in_err-close : goal.returns-in_err-close
returns-in_err-close g c =
    alt_error alts.index c.args.self.now.depth c.args.cursor.now c.symbol-2.new.self _ c.from_residual-in_err-close.result c.from_residual-in_err-close.ensures.1 (past_one c.in_ok-open.ensures (past_deep c.args.self.now.depth c.in_ok-at.ensures (at_one c.in_err-close.ensures)))

pub returns : goal.returns
returns g c =
    took_as alts.index (and_one c.in_ok-open.ensures (and_deep c.args.self.now.depth c.in_ok-at.ensures (and_one c.in_ok-close.ensures (end_all c.args.self.now.depth c.symbol-2.new.self)))) (links.index_made c.in_ok-at.at c.into_inner.result _ c.join.result c.into_inner.ensures c.join.ensures)

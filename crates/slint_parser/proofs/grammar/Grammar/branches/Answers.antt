use Rattle.slint_grammar.specs.Grammar.{Alt as alts}
use Rattle.slint_parser.proofs.Joining.{took_by, and_one, and_deep, end_all, at_one, at_deep, past_one, past_deep, alt_error}
use Rattle.slint_parser.proofs.grammar.Grammar.branches.Goals as goal

pub returns-in_err-symbol : goal.returns-in_err-symbol
returns-in_err-symbol g c =
    alt_error alts.choice c.args.self.now.depth c.args.cursor.now c.symbol.new.self _ c.from_residual.result c.from_residual.ensures.1 (at_one c.in_err-symbol.ensures)

pub returns-in_err-yes : goal.returns-in_err-yes
returns-in_err-yes g c =
    alt_error alts.choice c.args.self.now.depth c.args.cursor.now c.expr.new.cursor _ c.from_residual-in_err-yes.result c.from_residual-in_err-yes.ensures.1 (past_one c.in_ok-symbol.ensures (at_deep c.args.self.now.depth c.in_err-yes.ensures))

pub returns-in_err-symbol-2 : goal.returns-in_err-symbol-2
returns-in_err-symbol-2 g c =
    alt_error alts.choice c.args.self.now.depth c.args.cursor.now c.symbol-2.new.self _ c.from_residual-in_err-symbol-2.result c.from_residual-in_err-symbol-2.ensures.1 (past_one c.in_ok-symbol.ensures (past_deep c.args.self.now.depth c.in_ok-yes.ensures (at_one c.in_err-symbol-2.ensures)))

pub returns-in_err-no : goal.returns-in_err-no
returns-in_err-no g c =
    alt_error alts.choice c.args.self.now.depth c.args.cursor.now c.expr-2.new.cursor _ c.from_residual-in_err-no.result c.from_residual-in_err-no.ensures.1 (past_one c.in_ok-symbol.ensures (past_deep c.args.self.now.depth c.in_ok-yes.ensures (past_one c.in_ok-symbol-2.ensures (at_deep c.args.self.now.depth c.in_err-no.ensures))))

pub returns : goal.returns
returns g c =
    took_by alts.choice (and_one c.in_ok-symbol.ensures (and_deep c.args.self.now.depth c.in_ok-yes.ensures (and_one c.in_ok-symbol-2.ensures (and_deep c.args.self.now.depth c.in_ok-no.ensures (end_all c.args.self.now.depth c.expr-2.new.cursor)))))

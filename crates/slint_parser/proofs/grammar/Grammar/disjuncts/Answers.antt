use Rattle.slint_grammar.specs.Grammar.{Alt as alts}
use Rattle.slint_parser.proofs.Joining.{at_one, at_same, past_one, alt_error, alt_memory}
use Rattle.slint_parser.proofs.Chains as chains
use Rattle.slint_parser.proofs.grammar.Grammar.disjuncts.Goals as goal

pub returns-in_err-symbol : goal.returns-in_err-symbol
returns-in_err-symbol g c =
    alt_error alts.logic_or c.args.self.now.depth c.args.cursor.now c.symbol.new.self _ c.from_residual.result c.from_residual.ensures.1 (at_one c.in_err-symbol.ensures)

pub returns-in_err-right : goal.returns-in_err-right
returns-in_err-right g c =
    alt_error alts.logic_or c.args.self.now.depth c.args.cursor.now c.comparison.new.cursor _ c.from_residual-in_err-right.result c.from_residual-in_err-right.ensures.1 (past_one c.in_ok-symbol.ensures (at_same c.in_err-right.ensures))

pub returns-in_err-first : goal.returns-in_err-first
returns-in_err-first g c =
    alt_memory alts.logic_or c.args.self.now.depth c.args.cursor.now c.comparison.new.cursor c.from_residual-in_err-first.result c.from_residual-in_err-first.ensures.1

pub returns : goal.returns
returns g c =
    chains.disjuncts_all c.args.self.now.depth c.args.cursor.now c.symbol.new.self c.comparison.new.cursor c.more_disjuncts.new.cursor c.in_ok-symbol.field-0 c.in_ok-right.right c.in_ok-first.first c.more_disjuncts.result c.in_ok-symbol.ensures c.in_ok-right.ensures c.in_ok-first.ensures c.more_disjuncts.ensures

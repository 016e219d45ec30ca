use Rattle.std.proofs.Common.{arith}
use Rattle.slint_grammar.specs.Parts as p
use Rattle.slint_parser.proofs.Among.{unlike}
use Rattle.slint_parser.proofs.Shorter.{taken_shorter, no_longer}
use Rattle.slint_parser.proofs.Chains as chains
use Rattle.slint_parser.proofs.Chains.{onto_error, onto_memory}
use Rattle.slint_parser.proofs.grammar.Grammar.more_conjuncts.Goals as goal

pub more_conjuncts-init : goal.more_conjuncts-init
more_conjuncts-init g c =
    chains.conjuncts_begin c.args.self.now.depth c.args.cursor.now c.args.first

pub more_conjuncts-preserved : goal.more_conjuncts-preserved
more_conjuncts-preserved g c =
    chains.conjuncts_next c.args.self.now.depth c.args.cursor.now c.more_conjuncts.cursor c.symbol.new.self c.comparison.new.cursor c.args.first c.more_conjuncts.all c.push_operand.new.operands c.in_ok-symbol.field-0 c.in_ok-right.right c.more_conjuncts.invariant c.in_ok-symbol.ensures c.in_ok-right.ensures c.in_ok-push_operand.ensures

pub returns-in_err-symbol : goal.returns-in_err-symbol
returns-in_err-symbol g c =
    onto_error p.Ands (λ xs. xs) c.args.self.now.depth c.args.first c.args.cursor.now c.symbol.new.self _ c.from_residual.result c.from_residual.ensures.1 (chains.conjuncts_no_sign c.args.self.now.depth c.args.cursor.now c.more_conjuncts.cursor c.args.first c.more_conjuncts.all _ c.more_conjuncts.invariant (c.sees.ensures.0 c.more_conjuncts-test.true) c.in_err-symbol.ensures)

pub returns-in_err-right : goal.returns-in_err-right
returns-in_err-right g c =
    onto_error p.Ands (λ xs. xs) c.args.self.now.depth c.args.first c.args.cursor.now c.comparison.new.cursor _ c.from_residual-in_err-right.result c.from_residual-in_err-right.ensures.1 (chains.conjuncts_no_right c.args.self.now.depth c.args.cursor.now c.more_conjuncts.cursor c.symbol.new.self c.args.first c.more_conjuncts.all c.in_ok-symbol.field-0 _ c.more_conjuncts.invariant c.in_ok-symbol.ensures c.in_err-right.ensures)

pub returns-in_err-push_operand : goal.returns-in_err-push_operand
returns-in_err-push_operand g c =
    onto_memory p.Ands (λ xs. xs) c.args.self.now.depth c.args.first c.args.cursor.now c.comparison.new.cursor c.from_residual-in_err-push_operand.result c.from_residual-in_err-push_operand.ensures.1

pub returns : goal.returns
returns g c =
    chains.conjuncts_end c.args.self.now.depth c.args.cursor.now c.more_conjuncts.cursor c.args.first c.more_conjuncts.all c.more_conjuncts.invariant (unlike c.sees.result c.more_conjuncts-test.false c.sees.ensures.1)

pub more_conjuncts-smaller : goal.more_conjuncts-smaller
more_conjuncts-smaller g c =
    omega (arith, taken_shorter c.in_ok-symbol.ensures.x, no_longer c.in_ok-right.ensures.x)

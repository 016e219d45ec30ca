use Rattle.std.proofs.Common.{arith}
use Rattle.slint_grammar.specs.Parts as p
use Rattle.slint_parser.proofs.Joining.{part_error, part_memory}
use Rattle.slint_parser.proofs.Shorter.{taken_shorter, no_longer}
use Rattle.slint_parser.proofs.Chains as chains
use Rattle.slint_parser.proofs.grammar.Grammar.factors.Goals as goal

pub factors-init : goal.factors-init
factors-init g c =
    chains.factors_begin c.args.self.now.depth c.args.cursor.now c.new-all.result c.new-all.ensures

pub factors-preserved : goal.factors-preserved
factors-preserved g c =
    chains.factors_next c.args.self.now.depth c.args.cursor.now c.factors.cursor c.symbol.new.self c.unary.new.cursor c.factors.all c.push_operand.new.operands c.seen.result c.product_op.result c.in-Some.symbol c.in-Some.op c.in_ok-symbol.field-0 c.in_ok-right.right c.factors.invariant c.seen.ensures c.product_op.ensures c.in-Some.is c.in_ok-symbol.ensures c.in_ok-right.ensures c.in_ok-push_operand.ensures

pub returns-in_err-symbol : goal.returns-in_err-symbol
returns-in_err-symbol g c =
    part_error p.ProdRest c.args.self.now.depth c.args.cursor.now c.symbol.new.self _ c.from_residual.result c.from_residual.ensures.1 (chains.factors_no_sign c.args.self.now.depth c.args.cursor.now c.factors.cursor c.factors.all c.seen.result c.product_op.result c.in-Some.symbol c.in-Some.op _ c.factors.invariant c.seen.ensures c.product_op.ensures c.in-Some.is c.in_err-symbol.ensures)

pub returns-in_err-right : goal.returns-in_err-right
returns-in_err-right g c =
    part_error p.ProdRest c.args.self.now.depth c.args.cursor.now c.unary.new.cursor _ c.from_residual-in_err-right.result c.from_residual-in_err-right.ensures.1 (chains.factors_no_right c.args.self.now.depth c.args.cursor.now c.factors.cursor c.symbol.new.self c.factors.all c.seen.result c.product_op.result c.in-Some.symbol c.in-Some.op c.in_ok-symbol.field-0 _ c.factors.invariant c.seen.ensures c.product_op.ensures c.in-Some.is c.in_ok-symbol.ensures c.in_err-right.ensures)

pub returns-in_err-push_operand : goal.returns-in_err-push_operand
returns-in_err-push_operand g c =
    part_memory p.ProdRest c.args.self.now.depth c.args.cursor.now c.unary.new.cursor c.from_residual-in_err-push_operand.result c.from_residual-in_err-push_operand.ensures.1

pub returns : goal.returns
returns g c =
    chains.factors_end c.args.self.now.depth c.args.cursor.now c.factors.cursor c.factors.all c.seen.result c.product_op.result c.factors.invariant c.seen.ensures c.product_op.ensures c.in_default.not-Some

pub factors-smaller : goal.factors-smaller
factors-smaller g c =
    omega (arith, taken_shorter c.in_ok-symbol.ensures.x, no_longer c.in_ok-right.ensures.x)

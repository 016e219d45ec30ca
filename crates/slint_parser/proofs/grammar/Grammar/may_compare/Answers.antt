use Rattle.slint_grammar.specs.Parts as p
use Rattle.slint_parser.proofs.Joining.{part_error, part_memory}
use Rattle.slint_parser.proofs.Chains as chains
use Rattle.slint_parser.proofs.grammar.Grammar.may_compare.Goals as goal

pub returns-in_default : goal.returns-in_default
returns-in_default g c =
    chains.compare_none c.args.self.now.depth c.args.cursor.now c.new.result c.seen.result c.compare_op.result c.seen.ensures c.compare_op.ensures c.in_default.not-Some c.new.ensures

pub returns-in_err-symbol : goal.returns-in_err-symbol
returns-in_err-symbol g c =
    part_error p.MayCompare c.args.self.now.depth c.args.cursor.now c.symbol.new.self _ c.from_residual.result c.from_residual.ensures.1 (chains.compare_no_sign c.args.self.now.depth c.args.cursor.now _ c.seen.result c.compare_op.result c.in-Some.symbol c.in-Some.op c.seen.ensures c.compare_op.ensures c.in-Some.is c.in_err-symbol.ensures)

pub returns-in_err-right : goal.returns-in_err-right
returns-in_err-right g c =
    part_error p.MayCompare c.args.self.now.depth c.args.cursor.now c.sum.new.cursor _ c.from_residual-in_err-right.result c.from_residual-in_err-right.ensures.1 (chains.compare_no_right c.args.self.now.depth c.args.cursor.now c.symbol.new.self c.in_ok-symbol.field-0 _ c.seen.result c.compare_op.result c.in-Some.symbol c.in-Some.op c.seen.ensures c.compare_op.ensures c.in-Some.is c.in_ok-symbol.ensures c.in_err-right.ensures)

pub returns-in_err-one_operand : goal.returns-in_err-one_operand
returns-in_err-one_operand g c =
    part_memory p.MayCompare c.args.self.now.depth c.args.cursor.now c.sum.new.cursor c.from_residual-in_err-one_operand.result c.from_residual-in_err-one_operand.ensures.1

pub returns : goal.returns
returns g c =
    chains.compare_some c.args.self.now.depth c.args.cursor.now c.symbol.new.self c.sum.new.cursor c.in_ok-symbol.field-0 c.in_ok-right.right c.in_ok-one_operand.field-0 c.seen.result c.compare_op.result c.in-Some.symbol c.in-Some.op c.seen.ensures c.compare_op.ensures c.in-Some.is c.in_ok-symbol.ensures c.in_ok-right.ensures c.in_ok-one_operand.ensures

use Rattle.slint_grammar.specs.Parts as p
use Rattle.slint_parser.specs.Starts.{start_of}
use Rattle.slint_grammar.specs.Grammar.{Alt as alts}
use Rattle.slint_parser.proofs.Joining.{chosen_reads, part_error, part_memory}
use Rattle.slint_parser.proofs.Chains as chains
use Rattle.slint_parser.proofs.grammar.Grammar.unary.Goals as goal

pub returns-in_default : goal.returns-in_default
returns-in_default g c =
    chosen_reads (alts.post_alone {h = (start_of c.args.start)}) c.args.self.now.depth c.args.cursor.now c.postfix.new.cursor c.postfix.result (chains.chosen_post_alone (start_of c.args.start) c.args.self.now.depth c.args.cursor.now c.seen.result c.prefix_op.result c.seen.ensures c.prefix_op.ensures c.in_default.not-Some) (chains.alone_reads (start_of c.args.start) c.args.self.now.depth c.args.cursor.now c.postfix.new.cursor c.postfix.result c.postfix.ensures)

pub returns-in_err-span : goal.returns-in_err-span
returns-in_err-span g c =
    part_error (p.Unary (start_of c.args.start)) c.args.self.now.depth c.args.cursor.now c.symbol.new.self _ c.from_residual.result c.from_residual.ensures.1 (chains.prefix_no_sign (start_of c.args.start) c.args.self.now.depth c.args.cursor.now _ c.seen.result c.prefix_op.result c.in-Some.symbol c.in-Some.op c.seen.ensures c.prefix_op.ensures c.in-Some.is c.in_err-span.ensures)

pub returns-in_err-operand : goal.returns-in_err-operand
returns-in_err-operand g c =
    part_error (p.Unary (start_of c.args.start)) c.args.self.now.depth c.args.cursor.now c.operand.new.cursor _ c.from_residual-in_err-operand.result c.from_residual-in_err-operand.ensures.1 (chains.prefix_no_operand (start_of c.args.start) c.args.self.now.depth c.args.cursor.now c.symbol.new.self c.in_ok-span.span _ c.seen.result c.prefix_op.result c.in-Some.symbol c.in-Some.op c.seen.ensures c.prefix_op.ensures c.in-Some.is c.in_ok-span.ensures c.in_err-operand.ensures)

pub returns-in_err-prefix : goal.returns-in_err-prefix
returns-in_err-prefix g c =
    part_memory (p.Unary (start_of c.args.start)) c.args.self.now.depth c.args.cursor.now c.operand.new.cursor c.from_residual-in_err-prefix.result c.from_residual-in_err-prefix.ensures.1

pub returns : goal.returns
returns g c =
    chains.prefix_some (start_of c.args.start) c.args.self.now.depth c.args.cursor.now c.symbol.new.self c.operand.new.cursor c.in_ok-span.span c.in_ok-operand.operand c.in_ok-prefix.field-0 c.seen.result c.prefix_op.result c.in-Some.symbol c.in-Some.op c.seen.ensures c.prefix_op.ensures c.in-Some.is c.in_ok-span.ensures c.in_ok-operand.ensures c.in_ok-prefix.ensures

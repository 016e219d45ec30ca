use Rattle.std.proofs.Common.{sym}
use Rattle.slint_grammar.specs.Parts as p
use Rattle.slint_parser.specs.Starts.{start_of}
use Rattle.slint_grammar.specs.Grammar.{Alt as alts}
use Rattle.slint_parser.proofs.Joining.{took_as, and_same, end_all, at_same, past_same, chosen_took, chosen_stuck, part_error, part_memory}
use Rattle.slint_parser.proofs.Chains as chains
use Rattle.slint_parser.proofs.grammar.Grammar.comparison.Goals as goal

pub returns-in_err-first : goal.returns-in_err-first
returns-in_err-first g c =
    part_error (p.Cmp (start_of c.args.start)) c.args.self.now.depth c.args.cursor.now c.sum.new.cursor _ c.from_residual.result c.from_residual.ensures.1 (chosen_stuck (chains.chosen_cmp (start_of c.args.start) c.args.self.now.depth c.args.cursor.now) (at_same c.in_err-first.ensures))

pub returns-in_err-operands : goal.returns-in_err-operands
returns-in_err-operands g c =
    part_error (p.Cmp (start_of c.args.start)) c.args.self.now.depth c.args.cursor.now c.may_compare.new.cursor _ c.from_residual-in_err-operands.result c.from_residual-in_err-operands.ensures.1 (chosen_stuck (chains.chosen_cmp (start_of c.args.start) c.args.self.now.depth c.args.cursor.now) (past_same c.in_ok-first.ensures (at_same c.in_err-operands.ensures)))

pub returns-in_err-chain : goal.returns-in_err-chain
returns-in_err-chain g c =
    part_memory (p.Cmp (start_of c.args.start)) c.args.self.now.depth c.args.cursor.now c.may_compare.new.cursor c.from_residual-in_err-chain.result c.from_residual-in_err-chain.ensures.1

pub returns : goal.returns
returns g c =
    chosen_took (chains.chosen_cmp (start_of c.args.start) c.args.self.now.depth c.args.cursor.now) (took_as (alts.cmp {h = (start_of c.args.start)}) (and_same c.in_ok-first.ensures (and_same c.in_ok-operands.ensures (end_all c.args.self.now.depth c.may_compare.new.cursor))) (sym c.in_ok-chain.ensures))

use Rattle.std.proofs.Common.{sym}
use Rattle.slint_grammar.specs.Parts as p
use Rattle.slint_parser.specs.Starts.{start_of}
use Rattle.slint_grammar.specs.Grammar.{Alt as alts}
use Rattle.slint_parser.proofs.Joining.{took_as, and_same, end_all, at_same, past_same, chosen_took, chosen_stuck, part_error, part_memory}
use Rattle.slint_parser.proofs.Chains as chains
use Rattle.slint_parser.proofs.grammar.Grammar.whole.Goals as goal

pub returns-in_err-condition : goal.returns-in_err-condition
returns-in_err-condition g c =
    part_error (p.Expr (start_of c.args.start)) c.args.self.now.depth c.args.cursor.now c.logic.new.cursor _ c.from_residual.result c.from_residual.ensures.1 (chosen_stuck (chains.chosen_expr (start_of c.args.start) c.args.self.now.depth c.args.cursor.now) (at_same c.in_err-condition.ensures))

pub returns-in_err-branches : goal.returns-in_err-branches
returns-in_err-branches g c =
    part_error (p.Expr (start_of c.args.start)) c.args.self.now.depth c.args.cursor.now c.may_branch.new.cursor _ c.from_residual-in_err-branches.result c.from_residual-in_err-branches.ensures.1 (chosen_stuck (chains.chosen_expr (start_of c.args.start) c.args.self.now.depth c.args.cursor.now) (past_same c.in_ok-condition.ensures (at_same c.in_err-branches.ensures)))

pub returns-in_err-may_choose : goal.returns-in_err-may_choose
returns-in_err-may_choose g c =
    part_memory (p.Expr (start_of c.args.start)) c.args.self.now.depth c.args.cursor.now c.may_branch.new.cursor c.from_residual-in_err-may_choose.result c.from_residual-in_err-may_choose.ensures.1

pub returns : goal.returns
returns g c =
    chosen_took (chains.chosen_expr (start_of c.args.start) c.args.self.now.depth c.args.cursor.now) (took_as (alts.expr {h = (start_of c.args.start)}) (and_same c.in_ok-condition.ensures (and_same c.in_ok-branches.ensures (end_all c.args.self.now.depth c.may_branch.new.cursor))) (sym c.in_ok-may_choose.ensures))

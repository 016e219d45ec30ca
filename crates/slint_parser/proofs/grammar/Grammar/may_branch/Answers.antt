use Rattle.slint_grammar.specs.Grammar.{Alt as alts}
use Rattle.slint_parser.proofs.Among.{unlike}
use Rattle.slint_parser.proofs.Joining.{took_by, end_all, chosen_took, chosen_reads}
use Rattle.slint_parser.proofs.Chains as chains
use Rattle.slint_parser.proofs.grammar.Grammar.may_branch.Goals as goal

pub returns-then-sees : goal.returns-then-sees
returns-then-sees g c =
    chosen_reads alts.choice c.args.self.now.depth c.args.cursor.now c.branches.new.cursor c.branches.result (chains.chosen_choice c.args.self.now.depth c.args.cursor.now (c.sees.ensures.0 c.if-sees.true)) c.branches.ensures

pub returns-else-sees : goal.returns-else-sees
returns-else-sees g c =
    chosen_took (chains.chosen_no_choice c.args.self.now.depth c.args.cursor.now (unlike c.sees.result c.if-sees.false c.sees.ensures.1)) (took_by alts.no_choice (end_all c.args.self.now.depth c.args.cursor.now))

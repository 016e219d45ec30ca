use Rattle.std.proofs.Common.{sym}
use Rattle.slint_grammar.specs.Grammar.{Alt as alts}
use Rattle.slint_parser.proofs.Among.{unlike}
use Rattle.slint_parser.proofs.Joining.{took_as, end_all, chosen_took, chosen_reads}
use Rattle.slint_parser.proofs.Chains as chains
use Rattle.slint_parser.proofs.grammar.Grammar.logic_rest.Goals as goal

pub returns-then-sees : goal.returns-then-sees
returns-then-sees g c =
    chosen_reads alts.logic_and c.args.self.now.depth c.args.cursor.now c.conjuncts.new.cursor c.conjuncts.result (chains.chosen_logic_and c.args.self.now.depth c.args.cursor.now (c.sees.ensures.0 c.if-sees.true)) c.conjuncts.ensures

pub returns-then-sees-2 : goal.returns-then-sees-2
returns-then-sees-2 g c =
    chosen_reads alts.logic_or c.args.self.now.depth c.args.cursor.now c.disjuncts.new.cursor c.disjuncts.result (chains.chosen_logic_or c.args.self.now.depth c.args.cursor.now (c.sees-else-sees.ensures.0 c.if-sees-2.true)) c.disjuncts.ensures

pub returns-else-sees-2 : goal.returns-else-sees-2
returns-else-sees-2 g c =
    chosen_took (chains.chosen_no_logic c.args.self.now.depth c.args.cursor.now (unlike c.sees.result c.if-sees.false c.sees.ensures.1) (unlike c.sees-else-sees.result c.if-sees-2.false c.sees-else-sees.ensures.1)) (took_as alts.no_logic (end_all c.args.self.now.depth c.args.cursor.now) (sym c.new.ensures))

use Rattle.slint_grammar.specs.Grammar.{Alt as alts}
use Rattle.slint_parser.proofs.Joining.{chosen_reads}
use Rattle.slint_parser.proofs.Among.{unlike}
use Rattle.slint_parser.proofs.ChosenMembers as chosen
use Rattle.slint_parser.proofs.properties.property_end.Goals as goal

pub returns-then-sees : goal.returns-then-sees
returns-then-sees c =
    chosen_reads alts.bound_value c.args.depth c.args.cursor.now c.bound_value.new.cursor c.bound_value.result (chosen.chosen_bound c.args.depth c.args.cursor.now (c.sees.ensures.0 c.if-sees.true)) c.bound_value.ensures

pub returns-then-sees-2 : goal.returns-then-sees-2
returns-then-sees-2 c =
    chosen_reads alts.linked_value c.args.depth c.args.cursor.now c.linked_value.new.cursor c.linked_value.result (chosen.chosen_linked c.args.depth c.args.cursor.now (c.sees-2.ensures.0 c.if-sees-2.true)) c.linked_value.ensures

pub returns : goal.returns
returns c =
    chosen_reads alts.no_value c.args.depth c.args.cursor.now c.no_value.new.cursor c.no_value.result (chosen.chosen_no_value c.args.depth c.args.cursor.now (unlike c.sees.result c.if-sees.false c.sees.ensures.1) (unlike c.sees-2.result c.if-sees-2.false c.sees-2.ensures.1)) c.no_value.ensures

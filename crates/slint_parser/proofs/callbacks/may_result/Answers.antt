use Rattle.slint_grammar.specs.Grammar.{Alt as alts}
use Rattle.slint_parser.proofs.Joining.{took_by, end_all, chosen_reads, chosen_took}
use Rattle.slint_parser.proofs.Among.{unlike}
use Rattle.slint_parser.proofs.ChosenMembers as chosen
use Rattle.slint_parser.proofs.callbacks.may_result.Goals as goal

pub returns-then-sees : goal.returns-then-sees
returns-then-sees c =
    chosen_reads alts.result c.args.depth c.args.cursor.now c.result_type.new.cursor c.result_type.result (chosen.chosen_result c.args.depth c.args.cursor.now (c.sees.ensures.0 c.if-sees.true)) c.result_type.ensures

pub returns : goal.returns
returns c =
    chosen_took (chosen.chosen_no_result c.args.depth c.args.cursor.now (unlike c.sees.result c.if-sees.false c.sees.ensures.1)) (took_by alts.no_result (end_all c.args.depth c.args.cursor.now))

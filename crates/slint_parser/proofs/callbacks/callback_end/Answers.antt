use Rattle.slint_grammar.specs.Grammar.{Alt as alts}
use Rattle.slint_parser.proofs.Joining.{chosen_reads}
use Rattle.slint_parser.proofs.Among.{unlike}
use Rattle.slint_parser.proofs.ChosenMembers as chosen
use Rattle.slint_parser.proofs.callbacks.callback_end.Goals as goal

pub returns-then-sees : goal.returns-then-sees
returns-then-sees c =
    chosen_reads alts.linked_callback c.args.depth c.args.cursor.now c.linked_callback.new.cursor c.linked_callback.result (chosen.chosen_linked_callback c.args.depth c.args.cursor.now (c.sees.ensures.0 c.if-sees.true)) c.linked_callback.ensures

pub returns : goal.returns
returns c =
    chosen_reads alts.signature c.args.depth c.args.cursor.now c.signature.new.cursor c.signature.result (chosen.chosen_signature c.args.depth c.args.cursor.now (unlike c.sees.result c.if-sees.false c.sees.ensures.1)) c.signature.ensures

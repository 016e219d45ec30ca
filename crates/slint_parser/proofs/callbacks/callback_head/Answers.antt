use Rattle.slint_grammar.specs.Grammar.{Alt as alts}
use Rattle.slint_parser.proofs.Joining.{chosen_reads}
use Rattle.slint_parser.proofs.Among.{unlike}
use Rattle.slint_parser.proofs.ChosenMembers as chosen
use Rattle.slint_parser.proofs.callbacks.callback_head.Goals as goal

pub returns-then-shows : goal.returns-then-shows
returns-then-shows c =
    chosen_reads alts.pure_callback c.args.depth c.args.cursor.now c.pure_callback.new.cursor c.pure_callback.result (chosen.chosen_pure c.args.depth c.args.cursor.now (c.shows.ensures.0 c.if-shows.true)) c.pure_callback.ensures

pub returns : goal.returns
returns c =
    chosen_reads alts.impure_callback c.args.depth c.args.cursor.now c.impure_callback.new.cursor c.impure_callback.result (chosen.chosen_impure c.args.depth c.args.cursor.now (unlike c.shows.result c.if-shows.false c.shows.ensures.1)) c.impure_callback.ensures

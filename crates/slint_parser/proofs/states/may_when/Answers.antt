use Rattle.slint_grammar.specs.Grammar.{Alt as alts}
use Rattle.slint_parser.proofs.Joining.{took_by, end_all, chosen_reads, chosen_took}
use Rattle.slint_parser.proofs.Among.{unlike}
use Rattle.slint_parser.proofs.ChosenStates as chosen
use Rattle.slint_parser.proofs.states.may_when.Goals as goal

pub returns-then-shows : goal.returns-then-shows
returns-then-shows c =
    chosen_reads alts.when c.args.depth c.args.cursor.now c.when.new.cursor c.when.result (chosen.chosen_when c.args.depth c.args.cursor.now (c.shows.ensures.0 c.if-shows.true)) c.when.ensures

pub returns : goal.returns
returns c =
    chosen_took (chosen.chosen_no_when c.args.depth c.args.cursor.now (unlike c.shows.result c.if-shows.false c.shows.ensures.1)) (took_by alts.no_when (end_all c.args.depth c.args.cursor.now))

use Rattle.slint_grammar.specs.Grammar.{Alt as alts}
use Rattle.slint_parser.proofs.Joining.{chosen_reads}
use Rattle.slint_parser.proofs.Among.{unlike}
use Rattle.slint_parser.proofs.ChosenMembers as chosen
use Rattle.slint_parser.proofs.properties.property_head.Goals as goal

pub returns-then-shows : goal.returns-then-shows
returns-then-shows c =
    chosen_reads alts.private_mark c.args.depth c.args.cursor.now c.marked.new.cursor c.marked.result (chosen.chosen_private c.args.depth c.args.cursor.now (c.shows.ensures.0 c.if-shows.true)) (chosen.private_by c.args.depth c.args.cursor.now c.marked.new.cursor c.marked.result c.marked.ensures)

pub returns-then-shows-2 : goal.returns-then-shows-2
returns-then-shows-2 c =
    chosen_reads alts.in_mark c.args.depth c.args.cursor.now c.marked-then-shows-2.new.cursor c.marked-then-shows-2.result (chosen.chosen_in c.args.depth c.args.cursor.now (c.shows-2.ensures.0 c.if-shows-2.true)) (chosen.in_by c.args.depth c.args.cursor.now c.marked-then-shows-2.new.cursor c.marked-then-shows-2.result c.marked-then-shows-2.ensures)

pub returns-then-shows-3 : goal.returns-then-shows-3
returns-then-shows-3 c =
    chosen_reads alts.out_mark c.args.depth c.args.cursor.now c.marked-then-shows-3.new.cursor c.marked-then-shows-3.result (chosen.chosen_out c.args.depth c.args.cursor.now (c.shows-3.ensures.0 c.if-shows-3.true)) (chosen.out_by c.args.depth c.args.cursor.now c.marked-then-shows-3.new.cursor c.marked-then-shows-3.result c.marked-then-shows-3.ensures)

pub returns-then-shows-4 : goal.returns-then-shows-4
returns-then-shows-4 c =
    chosen_reads alts.in_out_mark c.args.depth c.args.cursor.now c.marked-then-shows-4.new.cursor c.marked-then-shows-4.result (chosen.chosen_in_out c.args.depth c.args.cursor.now (c.shows-4.ensures.0 c.if-shows-4.true)) (chosen.in_out_by c.args.depth c.args.cursor.now c.marked-then-shows-4.new.cursor c.marked-then-shows-4.result c.marked-then-shows-4.ensures)

pub returns : goal.returns
returns c =
    chosen_reads alts.no_mark c.args.depth c.args.cursor.now c.no_mark.new.cursor c.no_mark.result (chosen.chosen_no_mark c.args.depth c.args.cursor.now (unlike c.shows.result c.if-shows.false c.shows.ensures.1) (unlike c.shows-2.result c.if-shows-2.false c.shows-2.ensures.1) (unlike c.shows-3.result c.if-shows-3.false c.shows-3.ensures.1) (unlike c.shows-4.result c.if-shows-4.false c.shows-4.ensures.1)) c.no_mark.ensures

use Rattle.std.proofs.Common.{sym, ◌∙◌}
use Rattle.slint_parser.specs.Starts.{start_of}
use Rattle.slint_grammar.specs.Grammar.{Alt as alts}
use Rattle.slint_parser.proofs.Among.{unlike}
use Rattle.slint_parser.proofs.Joining.{chosen_reads}
use Rattle.slint_parser.proofs.Firsts as firsts
use Rattle.slint_parser.proofs.grammar.Grammar.single.Goals as goal

pub returns-then-shows : goal.returns-then-shows
returns-then-shows g c single =
    chosen_reads (alts.text_literal {h = (start_of c.args.start)}) c.args.self.now.depth c.args.cursor.now c.text_literal.new.cursor c.text_literal.result (firsts.chosen_text (start_of c.args.start) c.args.self.now.depth c.args.cursor.now (c.shows.ensures.0 c.if-shows.true)) (c.text_literal.ensures (start_of c.args.start))

pub returns-then-shows-2 : goal.returns-then-shows-2
returns-then-shows-2 g c single =
    chosen_reads (alts.colour_literal {h = (start_of c.args.start)}) c.args.self.now.depth c.args.cursor.now c.colour_literal.new.cursor c.colour_literal.result (firsts.chosen_colour (start_of c.args.start) c.args.self.now.depth c.args.cursor.now (c.shows-2.ensures.0 c.if-shows-2.true)) (c.colour_literal.ensures (start_of c.args.start))

pub returns-then-shows_name : goal.returns-then-shows_name
returns-then-shows_name g c single =
    chosen_reads (alts.name_alone {h = (start_of c.args.start)}) c.args.self.now.depth c.args.cursor.now c.name_alone.new.cursor c.name_alone.result (firsts.chosen_name (start_of c.args.start) c.args.self.now.depth c.args.cursor.now (sym c.shows_name.ensures ∙ c.if-shows_name.true)) (c.name_alone.ensures (start_of c.args.start) (sym c.shows_name.ensures ∙ c.if-shows_name.true))

pub returns : goal.returns
returns g c single =
    chosen_reads (alts.number_literal {h = (start_of c.args.start)}) c.args.self.now.depth c.args.cursor.now c.number_literal.new.cursor c.number_literal.result (firsts.chosen_number (start_of c.args.start) c.args.self.now.depth c.args.cursor.now single (unlike c.shows.result c.if-shows.false c.shows.ensures.1) (unlike c.shows-2.result c.if-shows-2.false c.shows-2.ensures.1) (sym c.shows_name.ensures ∙ c.if-shows_name.false)) (c.number_literal.ensures (start_of c.args.start))

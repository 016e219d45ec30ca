use Rattle.slint_grammar.specs.Grammar.{Alt as alts}
use Rattle.slint_parser.proofs.Among.{unlike}
use Rattle.slint_parser.proofs.Joining.{chosen_reads}
use Rattle.slint_parser.proofs.Firsts as firsts
use Rattle.slint_parser.proofs.grammar.Grammar.special.Goals as goal

pub returns-then-shows_ahead : goal.returns-then-shows_ahead
returns-then-shows_ahead g c h e = chosen_reads (alts.image_url {h = h}) c.args.self.now.depth c.args.cursor.now c.image.new.cursor c.image.result (firsts.chosen_image h c.args.self.now.depth c.args.cursor.now e (c.shows_ahead.ensures.0 c.if-shows_ahead.true)) (c.image.ensures h)

pub returns : goal.returns
returns g c h e = chosen_reads (alts.tr {h = h}) c.args.self.now.depth c.args.cursor.now c.translation.new.cursor c.translation.result (firsts.chosen_tr h c.args.self.now.depth c.args.cursor.now e (unlike c.shows_ahead.result c.if-shows_ahead.false c.shows_ahead.ensures.1)) (c.translation.ensures h)

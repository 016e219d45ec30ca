use Rattle.slint_parser.proofs.Among.{unlike}
use Rattle.slint_parser.proofs.functions.modifiers.Goals as goal
use Rattle.slint_parser.proofs.ModifierForks as forks

pub returns-then-shows : goal.returns-then-shows
returns-then-shows c = c.pure_first.ensures

pub returns : goal.returns
returns c = forks.none_took c.args.depth c.args.cursor.now (unlike c.shows.result c.if-shows.false c.shows.ensures.1) (unlike c.shows-2.result c.if-shows-2.false c.shows-2.ensures.1) (unlike c.shows-3.result c.if-shows-3.false c.shows-3.ensures.1)

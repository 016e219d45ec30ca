use Rattle.slint_grammar.specs.Parts as parts
use Rattle.slint_parser.proofs.Joining.{part_error}
use Rattle.slint_parser.proofs.Among.{unlike}
use Rattle.slint_parser.proofs.functions.public_first.Goals as goal
use Rattle.slint_parser.proofs.ModifierForks as forks

pub returns-in_err-word : goal.returns-in_err-word
returns-in_err-word c = part_error parts.Modifiers c.args.depth c.args.cursor.now c.word.new.self _ c.from_residual.result c.from_residual.ensures.1 (forks.public_stuck c.args.depth c.requires c.in_err-word.ensures)

pub returns-in_err-word-2 : goal.returns-in_err-word-2
returns-in_err-word-2 c = part_error parts.Modifiers c.args.depth c.args.cursor.now c.word-then-shows.new.self _ c.from_residual-in_err-word-2.result c.from_residual-in_err-word-2.ensures.1 (forks.public_pure_stuck c.args.depth c.word.new.self c.in_ok-word.ensures (c.shows.ensures.0 c.if-shows.true) c.in_err-word-2.ensures)

pub returns-then-shows : goal.returns-then-shows
returns-then-shows c = forks.public_pure_took c.args.depth c.args.cursor.now c.word.new.self c.word-then-shows.new.self c.in_ok-word.field-0 c.in_ok-word-2.field-0 c.in_ok-word.ensures (c.shows.ensures.0 c.if-shows.true) c.in_ok-word-2.ensures

pub returns : goal.returns
returns c = forks.public_alone_took c.args.depth c.args.cursor.now c.word.new.self c.in_ok-word.field-0 c.in_ok-word.ensures (unlike c.shows.result c.if-shows.false c.shows.ensures.1)

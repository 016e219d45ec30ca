use Rattle.slint_grammar.specs.Parts as parts
use Rattle.slint_parser.proofs.Joining.{part_error}
use Rattle.slint_parser.proofs.Among.{unlike}
use Rattle.slint_parser.proofs.functions.pure_first.Goals as goal
use Rattle.slint_parser.proofs.ModifierForks as forks

pub returns-in_err-word : goal.returns-in_err-word
returns-in_err-word c = part_error parts.Modifiers c.args.depth c.args.cursor.now c.word.new.self _ c.from_residual.result c.from_residual.ensures.1 (forks.pure_stuck c.args.depth c.requires c.in_err-word.ensures)

pub returns-in_err-word-2 : goal.returns-in_err-word-2
returns-in_err-word-2 c = part_error parts.Modifiers c.args.depth c.args.cursor.now c.word-then-shows.new.self _ c.from_residual-in_err-word-2.result c.from_residual-in_err-word-2.ensures.1 (forks.pure_public_stuck c.args.depth c.word.new.self c.in_ok-word.ensures (c.shows.ensures.0 c.if-shows.true) c.in_err-word-2.ensures)

pub returns-then-shows : goal.returns-then-shows
returns-then-shows c = forks.pure_public_took c.args.depth c.args.cursor.now c.word.new.self c.word-then-shows.new.self c.in_ok-word.field-0 c.in_ok-word-2.field-0 c.in_ok-word.ensures (c.shows.ensures.0 c.if-shows.true) c.in_ok-word-2.ensures

pub returns-in_err-word-3 : goal.returns-in_err-word-3
returns-in_err-word-3 c = part_error parts.Modifiers c.args.depth c.args.cursor.now c.word-then-shows-2.new.self _ c.from_residual-in_err-word-3.result c.from_residual-in_err-word-3.ensures.1 (forks.pure_protected_stuck c.args.depth c.word.new.self c.in_ok-word.ensures (c.shows-2.ensures.0 c.if-shows-2.true) c.in_err-word-3.ensures)

pub returns-then-shows-2 : goal.returns-then-shows-2
returns-then-shows-2 c = forks.pure_protected_took c.args.depth c.args.cursor.now c.word.new.self c.word-then-shows-2.new.self c.in_ok-word.field-0 c.in_ok-word-3.field-0 c.in_ok-word.ensures (c.shows-2.ensures.0 c.if-shows-2.true) c.in_ok-word-3.ensures

pub returns : goal.returns
returns c = forks.pure_alone_took c.args.depth c.args.cursor.now c.word.new.self c.in_ok-word.field-0 c.in_ok-word.ensures (unlike c.shows.result c.if-shows.false c.shows.ensures.1) (unlike c.shows-2.result c.if-shows-2.false c.shows-2.ensures.1)

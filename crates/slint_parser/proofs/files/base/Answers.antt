use Rattle.slint_grammar.specs.Parts as parts
use Rattle.slint_grammar.specs.Grammar.{Alt as alts}
use Rattle.slint_parser.proofs.Joining.{part_error, took_by, end_all, and_one, at_one, past_one, chosen_took, chosen_stuck}
use Rattle.slint_parser.proofs.Among.{unlike}
use Rattle.slint_parser.proofs.ChosenFiles.{chosen_base, no_base}
use Rattle.slint_parser.proofs.files.base.Goals as goal

pub returns-in_err-word : goal.returns-in_err-word
returns-in_err-word c = part_error parts.Base 0 c.args.cursor.now c.word.new.self _ c.from_residual.result c.from_residual.ensures.1 (chosen_stuck (chosen_base 0 c.args.cursor.now (c.shows.ensures.0 c.if-shows.true)) (at_one c.in_err-word.ensures))

pub returns-in_err-name : goal.returns-in_err-name
returns-in_err-name c =
    part_error parts.Base 0 c.args.cursor.now c.name.new.self _ c.from_residual-in_err-name.result c.from_residual-in_err-name.ensures.1 (chosen_stuck (chosen_base 0 c.args.cursor.now (c.shows.ensures.0 c.if-shows.true)) (past_one c.in_ok-word.ensures (at_one c.in_err-name.ensures)))

pub returns-then-shows : goal.returns-then-shows
returns-then-shows c = chosen_took (chosen_base 0 c.args.cursor.now (c.shows.ensures.0 c.if-shows.true)) (took_by alts.base (and_one c.in_ok-word.ensures (and_one c.in_ok-name.ensures (end_all 0 c.name.new.self))))

pub returns : goal.returns
returns c = no_base 0 c.args.cursor.now (unlike c.shows.result c.if-shows.false c.shows.ensures.1)

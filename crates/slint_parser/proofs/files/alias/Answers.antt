use Rattle.slint_grammar.specs.Parts as parts
use Rattle.slint_grammar.specs.Grammar.{Alt as alts}
use Rattle.slint_parser.proofs.Joining.{part_error, took_by, end_all, and_one, and_same, at_one, at_same, past_one, chosen_took, chosen_stuck}
use Rattle.slint_parser.proofs.ChosenFiles.{chosen_alias}
use Rattle.slint_parser.proofs.files.alias.Goals as goal

pub returns-in_err-name : goal.returns-in_err-name
returns-in_err-name c = part_error parts.Alias 0 c.args.cursor.now c.name.new.self _ c.from_residual.result c.from_residual.ensures.1 (chosen_stuck (chosen_alias 0 c.args.cursor.now) (at_one c.in_err-name.ensures))

pub returns-in_err-alias : goal.returns-in_err-alias
returns-in_err-alias c = part_error parts.Alias 0 c.args.cursor.now c.new_name.new.cursor _ c.from_residual-in_err-alias.result c.from_residual-in_err-alias.ensures.1 (chosen_stuck (chosen_alias 0 c.args.cursor.now) (past_one c.in_ok-name.ensures (at_same c.in_err-alias.ensures)))

pub returns : goal.returns
returns c = chosen_took (chosen_alias 0 c.args.cursor.now) (took_by alts.alias (and_one c.in_ok-name.ensures (and_same c.in_ok-alias.ensures (end_all 0 c.new_name.new.cursor))))

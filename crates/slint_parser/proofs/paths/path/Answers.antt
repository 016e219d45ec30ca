use Rattle.slint_grammar.specs.Parts as parts
use Rattle.slint_grammar.specs.Grammar.{Alt as alts}
use Rattle.slint_parser.proofs.Joining.{part_error, took_by, end_all, and_one, and_same, at_one, at_same, past_one, chosen_took, chosen_stuck}
use Rattle.slint_parser.proofs.ChosenMembers as chosen
use Rattle.slint_parser.proofs.paths.path.Goals as goal

pub returns-in_err-first : goal.returns-in_err-first
returns-in_err-first c =
    part_error parts.Path c.args.depth c.args.cursor.now c.name.new.self _ c.from_residual.result c.from_residual.ensures.1 (chosen_stuck (chosen.chosen_path c.args.depth c.args.cursor.now) (at_one c.in_err-first.ensures))

pub returns-in_err-rest : goal.returns-in_err-rest
returns-in_err-rest c =
    part_error parts.Path c.args.depth c.args.cursor.now c.path_rest.new.cursor _ c.from_residual-in_err-rest.result c.from_residual-in_err-rest.ensures.1 (chosen_stuck (chosen.chosen_path c.args.depth c.args.cursor.now) (past_one c.in_ok-first.ensures (at_same c.in_err-rest.ensures)))

pub returns : goal.returns
returns c =
    chosen_took (chosen.chosen_path c.args.depth c.args.cursor.now) (took_by alts.path (and_one c.in_ok-first.ensures (and_same c.in_ok-rest.ensures (end_all c.args.depth c.path_rest.new.cursor))))

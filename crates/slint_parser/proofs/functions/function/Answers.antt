use Rattle.slint_grammar.specs.Parts as parts
use Rattle.slint_parser.proofs.Joining.{part_error, at_one, at_same, past_one, past_same, chosen_stuck}
use Rattle.slint_parser.proofs.ChosenMembers as chosen
use Rattle.slint_parser.proofs.functions.function.Goals as goal

pub returns-in_err-is_pure : goal.returns-in_err-is_pure
returns-in_err-is_pure c =
    part_error parts.Function c.args.depth c.args.cursor.now c.modifiers.new.cursor _ c.from_residual.result c.from_residual.ensures.1 (chosen_stuck (chosen.chosen_function c.args.depth c.args.cursor.now) (at_same c.in_err-is_pure.ensures))

pub returns-in_err-word : goal.returns-in_err-word
returns-in_err-word c =
    part_error parts.Function c.args.depth c.args.cursor.now c.word.new.self _ c.from_residual-in_err-word.result c.from_residual-in_err-word.ensures.1 (chosen_stuck (chosen.chosen_function c.args.depth c.args.cursor.now) (past_same c.in_ok-is_pure.ensures (at_one c.in_err-word.ensures)))

pub returns-in_err-name : goal.returns-in_err-name
returns-in_err-name c =
    part_error parts.Function c.args.depth c.args.cursor.now c.name.new.self _ c.from_residual-in_err-name.result c.from_residual-in_err-name.ensures.1 (chosen_stuck (chosen.chosen_function c.args.depth c.args.cursor.now) (past_same c.in_ok-is_pure.ensures (past_one c.in_ok-word.ensures (at_one c.in_err-name.ensures))))

pub returns : goal.returns
returns c =
    chosen.function_by c.args.depth c.args.cursor.now c.modifiers.new.cursor c.word.new.self c.name.new.self c.behind_name.new.cursor c.in_ok-is_pure.is_pure c.in_ok-is_pure.access c.in_ok-word.field-0 c.in_ok-name.name c.behind_name.result c.in_ok-is_pure.ensures c.in_ok-word.ensures c.in_ok-name.ensures c.behind_name.ensures

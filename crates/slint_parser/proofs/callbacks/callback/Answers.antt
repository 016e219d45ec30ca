use Rattle.slint_grammar.specs.Parts as parts
use Rattle.slint_grammar.specs.Grammar.{Alt as alts}
use Rattle.slint_parser.proofs.Joining.{part_error, took_by, end_all, and_one, and_same, at_one, at_same, past_one, past_same, chosen_took, chosen_stuck}
use Rattle.slint_parser.proofs.ChosenMembers as chosen
use Rattle.slint_parser.proofs.callbacks.callback.Goals as goal

pub returns-in_err-is_pure : goal.returns-in_err-is_pure
returns-in_err-is_pure c =
    part_error parts.Callback c.args.depth c.args.cursor.now c.callback_head.new.cursor _ c.from_residual.result c.from_residual.ensures.1 (chosen_stuck (chosen.chosen_callback c.args.depth c.args.cursor.now) (at_same c.in_err-is_pure.ensures))

pub returns-in_err-name : goal.returns-in_err-name
returns-in_err-name c =
    part_error parts.Callback c.args.depth c.args.cursor.now c.name.new.self _ c.from_residual-in_err-name.result c.from_residual-in_err-name.ensures.1 (chosen_stuck (chosen.chosen_callback c.args.depth c.args.cursor.now) (past_same c.in_ok-is_pure.ensures (at_one c.in_err-name.ensures)))

pub returns-in_err-form : goal.returns-in_err-form
returns-in_err-form c =
    part_error parts.Callback c.args.depth c.args.cursor.now c.callback_end.new.cursor _ c.from_residual-in_err-form.result c.from_residual-in_err-form.ensures.1 (chosen_stuck (chosen.chosen_callback c.args.depth c.args.cursor.now) (past_same c.in_ok-is_pure.ensures (past_one c.in_ok-name.ensures (at_same c.in_err-form.ensures))))

pub returns : goal.returns
returns c =
    rw c.join-span.ensures (chosen_took (chosen.chosen_callback c.args.depth c.args.cursor.now) (took_by alts.callback (and_same c.in_ok-is_pure.ensures (and_one c.in_ok-name.ensures (and_same c.in_ok-form.ensures (end_all c.args.depth c.callback_end.new.cursor))))))

use Rattle.slint_grammar.specs.Parts as parts
use Rattle.slint_grammar.specs.Grammar.{Alt as alts}
use Rattle.slint_parser.proofs.Joining.{part_error, took_by, end_all, and_one, and_same, at_one, at_same, past_one, past_same, chosen_took, chosen_stuck}
use Rattle.slint_parser.proofs.ChosenMembers as chosen
use Rattle.slint_parser.proofs.handlers.handler.Goals as goal

pub returns-in_err-name : goal.returns-in_err-name
returns-in_err-name c =
    part_error parts.Handler c.args.depth c.args.cursor.now c.name.new.self _ c.from_residual.result c.from_residual.ensures.1 (chosen_stuck (chosen.chosen_handler c.args.depth c.args.cursor.now) (at_one (chosen.stuck_but c.args.depth c.requires.named c.in_err-name.ensures)))

pub returns-in_err-parameters : goal.returns-in_err-parameters
returns-in_err-parameters c =
    part_error parts.Handler c.args.depth c.args.cursor.now c.may_names.new.cursor _ c.from_residual-in_err-parameters.result c.from_residual-in_err-parameters.ensures.1 (chosen_stuck (chosen.chosen_handler c.args.depth c.args.cursor.now) (past_one (chosen.took_but c.args.depth c.requires.named c.in_ok-name.ensures) (at_same c.in_err-parameters.ensures)))

pub returns-in_err-symbol : goal.returns-in_err-symbol
returns-in_err-symbol c =
    part_error parts.Handler c.args.depth c.args.cursor.now c.symbol.new.self _ c.from_residual-in_err-symbol.result c.from_residual-in_err-symbol.ensures.1 (chosen_stuck (chosen.chosen_handler c.args.depth c.args.cursor.now) (past_one (chosen.took_but c.args.depth c.requires.named c.in_ok-name.ensures) (past_same c.in_ok-parameters.ensures (at_one c.in_err-symbol.ensures))))

pub returns-in_err-run : goal.returns-in_err-run
returns-in_err-run c =
    part_error parts.Handler c.args.depth c.args.cursor.now c.run.new.cursor _ c.from_residual-in_err-run.result c.from_residual-in_err-run.ensures.1 (chosen_stuck (chosen.chosen_handler c.args.depth c.args.cursor.now) (past_one (chosen.took_but c.args.depth c.requires.named c.in_ok-name.ensures) (past_same c.in_ok-parameters.ensures (past_one c.in_ok-symbol.ensures (at_same c.in_err-run.ensures)))))

pub returns : goal.returns
returns c =
    rw c.join-span.ensures (chosen_took (chosen.chosen_handler c.args.depth c.args.cursor.now) (took_by alts.handler (and_one (chosen.took_but c.args.depth c.requires.named c.in_ok-name.ensures) (and_same c.in_ok-parameters.ensures (and_one c.in_ok-symbol.ensures (and_same c.in_ok-run.ensures (end_all c.args.depth c.run.new.cursor)))))))

use Rattle.slint_grammar.specs.Parts as parts
use Rattle.slint_grammar.specs.Grammar.{Alt as alts}
use Rattle.slint_parser.proofs.Joining.{part_error, took_by, end_all, and_one, and_same, at_one, at_same, past_one, past_same, chosen_took, chosen_stuck}
use Rattle.slint_parser.proofs.ChosenStates as chosen
use Rattle.slint_parser.proofs.states.state.Goals as goal

pub returns-in_err-name : goal.returns-in_err-name
returns-in_err-name c =
    part_error parts.State c.args.depth c.args.cursor.now c.name.new.self _ c.from_residual.result c.from_residual.ensures.1 (chosen_stuck (chosen.chosen_state c.args.depth c.args.cursor.now) (at_one c.in_err-name.ensures))

pub returns-in_err-when : goal.returns-in_err-when
returns-in_err-when c =
    part_error parts.State c.args.depth c.args.cursor.now c.may_when.new.cursor _ c.from_residual-in_err-when.result c.from_residual-in_err-when.ensures.1 (chosen_stuck (chosen.chosen_state c.args.depth c.args.cursor.now) (past_one c.in_ok-name.ensures (at_same c.in_err-when.ensures)))

pub returns-in_err-symbol : goal.returns-in_err-symbol
returns-in_err-symbol c =
    part_error parts.State c.args.depth c.args.cursor.now c.symbol.new.self _ c.from_residual-in_err-symbol.result c.from_residual-in_err-symbol.ensures.1 (chosen_stuck (chosen.chosen_state c.args.depth c.args.cursor.now) (past_one c.in_ok-name.ensures (past_same c.in_ok-when.ensures (at_one c.in_err-symbol.ensures))))

pub returns-in_err-symbol-2 : goal.returns-in_err-symbol-2
returns-in_err-symbol-2 c =
    part_error parts.State c.args.depth c.args.cursor.now c.symbol-2.new.self _ c.from_residual-in_err-symbol-2.result c.from_residual-in_err-symbol-2.ensures.1 (chosen_stuck (chosen.chosen_state c.args.depth c.args.cursor.now) (past_one c.in_ok-name.ensures (past_same c.in_ok-when.ensures (past_one c.in_ok-symbol.ensures (at_one c.in_err-symbol-2.ensures)))))

pub returns-in_err-changes : goal.returns-in_err-changes
returns-in_err-changes c =
    part_error parts.State c.args.depth c.args.cursor.now c.changes.new.cursor _ c.from_residual-in_err-changes.result c.from_residual-in_err-changes.ensures.1 (chosen_stuck (chosen.chosen_state c.args.depth c.args.cursor.now) (past_one c.in_ok-name.ensures (past_same c.in_ok-when.ensures (past_one c.in_ok-symbol.ensures (past_one c.in_ok-symbol-2.ensures (at_same c.in_err-changes.ensures))))))

pub returns : goal.returns
returns c =
    chosen_took (chosen.chosen_state c.args.depth c.args.cursor.now) (took_by alts.state (and_one c.in_ok-name.ensures (and_same c.in_ok-when.ensures (and_one c.in_ok-symbol.ensures (and_one c.in_ok-symbol-2.ensures (and_same c.in_ok-changes.ensures (end_all c.args.depth c.changes.new.cursor)))))))

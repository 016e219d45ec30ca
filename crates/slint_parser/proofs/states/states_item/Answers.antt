use Rattle.slint_grammar.specs.Grammar.{Alt as alts}
use Rattle.slint_parser.proofs.Joining.{alt_error, took_by, end_all, and_one, and_same, at_one, at_same, past_one}
use Rattle.slint_parser.proofs.states.states_item.Goals as goal

pub returns-in_err-word : goal.returns-in_err-word
returns-in_err-word c =
    alt_error alts.states_item c.args.depth c.args.cursor.now c.word.new.self _ c.from_residual.result c.from_residual.ensures.1 (at_one c.in_err-word.ensures)

pub returns-in_err-symbol : goal.returns-in_err-symbol
returns-in_err-symbol c =
    alt_error alts.states_item c.args.depth c.args.cursor.now c.symbol.new.self _ c.from_residual-in_err-symbol.result c.from_residual-in_err-symbol.ensures.1 (past_one c.in_ok-word.ensures (at_one c.in_err-symbol.ensures))

pub returns-in_err-states : goal.returns-in_err-states
returns-in_err-states c =
    alt_error alts.states_item c.args.depth c.args.cursor.now c.state_list.new.cursor _ c.from_residual-in_err-states.result c.from_residual-in_err-states.ensures.1 (past_one c.in_ok-word.ensures (past_one c.in_ok-symbol.ensures (at_same c.in_err-states.ensures)))

pub returns : goal.returns
returns c =
    took_by alts.states_item (and_one c.in_ok-word.ensures (and_one c.in_ok-symbol.ensures (and_same c.in_ok-states.ensures (end_all c.args.depth c.state_list.new.cursor))))

use Rattle.std.proofs.Common.{refl}
use Rattle.slint_grammar.specs.Parts as parts
use Rattle.slint_parser.proofs.Joining.{part_error}
use Rattle.slint_parser.proofs.Among.{unlike}
use Rattle.slint_parser.proofs.Shorter.{shorter}
use Rattle.slint_parser.proofs.ChosenStates as chosen
use Rattle.slint_parser.proofs.states.state_list.Goals as goal

pub states-init : goal.states-init
states-init c = rw c.new-all.ensures (chosen.states_begin c.args.depth c.args.cursor.now)

pub states-preserved : goal.states-preserved
states-preserved c =
    chosen.states_next c.args.depth c.args.cursor.now c.states.cursor c.state.new.cursor c.states.all c.push.new.self c.in_ok-one.one c.states.invariant (unlike c.sees.result c.states-test.true c.sees.ensures.1) c.in_ok-one.ensures c.in_ok-push.ensures.ok

pub states-smaller : goal.states-smaller
states-smaller c = shorter c.in_ok-one.ensures.x refl

pub returns-in_err-one : goal.returns-in_err-one
returns-in_err-one c = part_error parts.StateList c.args.depth c.args.cursor.now c.state.new.cursor _ c.from_residual.result c.from_residual.ensures.1 (chosen.states_no_state c.args.depth c.args.cursor.now c.states.cursor c.states.all _ c.states.invariant (unlike c.sees.result c.states-test.true c.sees.ensures.1) c.in_err-one.ensures)

pub returns-in_err-symbol : goal.returns-in_err-symbol
returns-in_err-symbol c = part_error parts.StateList c.args.depth c.args.cursor.now c.symbol.new.self _ c.from_residual-in_err-symbol.result c.from_residual-in_err-symbol.ensures.1 (chosen.states_open c.args.depth c.args.cursor.now c.states.cursor c.states.all _ c.states.invariant (c.sees.ensures.0 c.states-test.false) c.in_err-symbol.ensures)

pub returns : goal.returns
returns c = chosen.states_took c.args.depth c.args.cursor.now c.states.cursor c.symbol.new.self c.states.all c.in_ok-symbol.field-0 c.states.invariant (c.sees.ensures.0 c.states-test.false) c.in_ok-symbol.ensures

use Rattle.syntax_tree.specs.Printed.{tokens_of_state}
use Rattle.syntax_tree.proofs.InOrder.{behind, turn, end_of_turns}
use Rattle.syntax_tree.proofs.print_members.print_state_list.Goals as goal

pub loop-state-init : goal.loop-state-init
loop-state-init c = λ end w. w

pub loop-state-preserved : goal.loop-state-preserved
loop-state-preserved c = λ end w. c.loop-state.invariant end (turn tokens_of_state c.args.states.now c.loop-state.state-index c.state-item.result c.state-item.is c.loop-state-test.true c.in_ok-print_state.ensures w)

pub returns : goal.returns
returns c = behind c.in_ok-write_symbol.ensures (behind (c.loop-state.invariant _ (end_of_turns tokens_of_state c.args.states.now c.loop-state.state-index _ c.loop-state-test.false)) c.in_ok-write_symbol-2.ensures)

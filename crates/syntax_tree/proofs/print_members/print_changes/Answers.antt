use Rattle.syntax_tree.specs.Printed.{tokens_of_change}
use Rattle.syntax_tree.proofs.InOrder.{behind, turn, end_of_turns}
use Rattle.syntax_tree.proofs.print_members.print_changes.Goals as goal

pub loop-change-init : goal.loop-change-init
loop-change-init c = λ end w. w

pub loop-change-preserved : goal.loop-change-preserved
loop-change-preserved c = λ end w. c.loop-change.invariant end (turn tokens_of_change c.args.changes.now c.loop-change.change-index c.change-item.result c.change-item.is c.loop-change-test.true c.in_ok-print_change.ensures w)

pub returns : goal.returns
returns c = behind c.in_ok-write_symbol.ensures (behind (c.loop-change.invariant _ (end_of_turns tokens_of_change c.args.changes.now c.loop-change.change-index _ c.loop-change-test.false)) c.in_ok-write_symbol-2.ensures)

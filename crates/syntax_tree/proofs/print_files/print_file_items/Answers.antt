use Rattle.syntax_tree.specs.Printed.{tokens_of_file_item}
use Rattle.syntax_tree.proofs.InOrder.{turn, end_of_turns}
use Rattle.syntax_tree.proofs.print_files.print_file_items.Goals as goal

pub loop-item-init : goal.loop-item-init
loop-item-init c = λ end w. w

pub loop-item-preserved : goal.loop-item-preserved
loop-item-preserved c = λ end w. c.loop-item.invariant end (turn tokens_of_file_item c.args.items.now c.loop-item.item-index c.item-item.result c.item-item.is c.loop-item-test.true c.in_ok-print_file_item.ensures w)

pub returns : goal.returns
returns c = c.loop-item.invariant _ (end_of_turns tokens_of_file_item c.args.items.now c.loop-item.item-index _ c.loop-item-test.false)

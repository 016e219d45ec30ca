use Rattle.syntax_tree.proofs.InOrder.{behind}
use Rattle.syntax_tree.proofs.print_members.print_callback_head.Goals as goal

pub returns : goal.returns
returns c = behind c.in_ok-print_pure.ensures c.in_ok-write_word.ensures

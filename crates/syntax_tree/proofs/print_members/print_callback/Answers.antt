use Rattle.syntax_tree.proofs.InOrder.{behind}
use Rattle.syntax_tree.proofs.print_members.print_callback.Goals as goal

pub returns : goal.returns
returns c = behind c.in_ok-print_callback_head.ensures (behind c.in_ok-write_name.ensures c.in_ok-print_form.ensures)

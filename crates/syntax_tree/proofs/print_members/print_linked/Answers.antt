use Rattle.syntax_tree.proofs.InOrder.{behind}
use Rattle.syntax_tree.proofs.print_members.print_linked.Goals as goal

pub returns : goal.returns
returns c = behind c.in_ok-write_symbol.ensures (behind c.in_ok-print_path.ensures c.in_ok-write_symbol-2.ensures)

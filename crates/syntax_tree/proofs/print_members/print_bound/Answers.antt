use Rattle.syntax_tree.proofs.InOrder.{behind}
use Rattle.syntax_tree.proofs.print_members.print_bound.Goals as goal

pub returns : goal.returns
returns c = behind c.in_ok-write_symbol.ensures c.in_ok-print_value.ensures

use Rattle.syntax_tree.proofs.InOrder.{behind}
use Rattle.syntax_tree.proofs.print_members.print_before_type.Goals as goal

pub returns : goal.returns
returns c = behind c.in_ok-write_name.ensures c.in_ok-write_symbol.ensures

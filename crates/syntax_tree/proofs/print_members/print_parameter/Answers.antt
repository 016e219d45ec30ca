use Rattle.syntax_tree.proofs.InOrder.{behind}
use Rattle.syntax_tree.proofs.print_members.print_parameter.Goals as goal

pub returns : goal.returns
returns c = behind c.in_ok-print_parameter_name.ensures c.in_ok-print_type.ensures

use Rattle.syntax_tree.proofs.InOrder.{behind}
use Rattle.syntax_tree.proofs.print_members.print_signature.Goals as goal

pub returns : goal.returns
returns c = behind c.in_ok-print_some_parameters.ensures (behind c.in_ok-print_some_result.ensures c.in_ok-write_symbol.ensures)

use Rattle.syntax_tree.proofs.InOrder.{behind}
use Rattle.syntax_tree.proofs.print_files.print_alias.Goals as goal

pub returns : goal.returns
returns c = behind c.in_ok-write_name.ensures c.in_ok-print_some_new_name.ensures

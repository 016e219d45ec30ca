use Rattle.syntax_tree.proofs.InOrder.{behind}
use Rattle.syntax_tree.proofs.print_files.print_base.Goals as goal

pub returns : goal.returns
returns c = behind c.in_ok-write_word.ensures c.in_ok-write_name.ensures

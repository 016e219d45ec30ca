use Rattle.syntax_tree.proofs.InOrder.{behind}
use Rattle.syntax_tree.proofs.print_files.print_exported.Goals as goal

pub returns : goal.returns
returns c = behind c.in_ok-print_export_word.ensures c.in_ok-print_decl.ensures

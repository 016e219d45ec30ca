use Rattle.syntax_tree.proofs.InOrder.{behind}
use Rattle.syntax_tree.proofs.print_files.print_import_names.Goals as goal

pub returns : goal.returns
returns c = behind c.in_ok-print_aliases.ensures c.in_ok-write_word.ensures

use Rattle.syntax_tree.proofs.InOrder.{behind}
use Rattle.syntax_tree.proofs.print_files.print_import.Goals as goal

pub returns : goal.returns
returns c = behind c.in_ok-write_word.ensures (behind c.in_ok-print_some_import_names.ensures (behind c.in_ok-write_text.ensures c.in_ok-write_symbol.ensures))

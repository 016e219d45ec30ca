use Rattle.syntax_tree.specs.Printed.{tokens_of_items}
use Rattle.syntax_tree.proofs.InOrder.{behind, at_slice}
use Rattle.syntax_tree.proofs.print_files.print_global.Goals as goal

pub returns : goal.returns
returns c = behind c.in_ok-write_word.ensures (behind c.in_ok-write_name.ensures (behind c.in_ok-write_symbol.ensures (at_slice tokens_of_items c.as_slice.ensures c.in_ok-print_items.ensures)))

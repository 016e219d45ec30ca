use Rattle.syntax_tree.specs.Printed.{aliases_in_braces}
use Rattle.syntax_tree.proofs.InOrder.{behind, at_slice}
use Rattle.syntax_tree.proofs.print_files.print_export.Goals as goal

pub returns : goal.returns
returns c = behind c.in_ok-write_word.ensures (at_slice aliases_in_braces c.as_slice.ensures c.in_ok-print_aliases.ensures)

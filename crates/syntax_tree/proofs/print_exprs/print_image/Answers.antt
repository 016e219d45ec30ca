use Rattle.syntax_tree.proofs.InOrder.{behind}
use Rattle.syntax_tree.proofs.print_exprs.print_image.Goals as goal

pub returns : goal.returns
returns c = behind c.in_ok-write_symbol.ensures (behind c.in_ok-write_word.ensures (behind c.in_ok-write_symbol-2.ensures (behind c.in_ok-write_text.ensures c.in_ok-write_symbol-3.ensures)))

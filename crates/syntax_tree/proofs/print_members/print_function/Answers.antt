use Rattle.syntax_tree.proofs.InOrder.{behind}
use Rattle.syntax_tree.proofs.print_members.print_function.Goals as goal

pub returns : goal.returns
returns c = behind c.in_ok-print_modifiers.ensures (behind c.in_ok-write_word.ensures (behind c.in_ok-write_name.ensures c.in_ok-print_behind_name.ensures))

use Rattle.syntax_tree.specs.Printed.{states_of}
use Rattle.syntax_tree.proofs.InOrder.{behind, at_slice}
use Rattle.syntax_tree.proofs.print_members.print_states.Goals as goal

pub returns : goal.returns
returns c = behind c.in_ok-write_word.ensures (at_slice states_of c.as_slice.ensures c.in_ok-print_state_list.ensures)

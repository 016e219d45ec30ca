use Rattle.std.proofs.Common.{map}
use Rattle.syntax_tree.specs.Printed.{in_braces, tokens_of_change}
use Rattle.syntax_tree.proofs.InOrder.{behind, at_slice}
use Rattle.syntax_tree.proofs.print_members.print_state.Goals as goal

pub returns : goal.returns
returns c = behind c.in_ok-write_name.ensures (behind c.in_ok-print_some_when.ensures (behind c.in_ok-write_symbol.ensures (at_slice (λ xs. in_braces (map tokens_of_change xs)) c.as_slice.ensures c.in_ok-print_changes.ensures)))

use Rattle.std.proofs.Common.{map}
use Rattle.syntax_tree.specs.Printed.{in_parens, tokens_of_field}
use Rattle.syntax_tree.proofs.InOrder.{behind, at_slice}
use Rattle.syntax_tree.proofs.print_members.print_behind_name.Goals as goal

pub returns : goal.returns
returns c = behind (at_slice (λ xs. in_parens (map tokens_of_field xs)) c.as_slice.ensures c.in_ok-print_field_list.ensures) (behind c.in_ok-print_some_result.ensures c.in_ok-print_block.ensures)

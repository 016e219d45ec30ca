use Rattle.syntax_tree.proofs.InOrder.{behind}
use Rattle.syntax_tree.proofs.print_members.print_property.Goals as goal

pub returns : goal.returns
returns c = behind c.in_ok-print_property_head.ensures (behind c.in_ok-print_some_angled.ensures (behind c.in_ok-write_name.ensures c.in_ok-print_prop_value.ensures))

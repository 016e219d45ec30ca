use Rattle.syntax_tree.specs.Printed.{behind_points}
use Rattle.syntax_tree.proofs.InOrder.{behind, at_slice}
use Rattle.syntax_tree.proofs.print_members.print_path.Goals as goal

pub returns : goal.returns
returns c = behind c.in_ok-write_name.ensures (at_slice behind_points c.as_slice.ensures c.in_ok-print_points.ensures)

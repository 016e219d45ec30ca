use Rattle.std.proofs.Common.{ℕ, List, map, drop}
use Rattle.syntax_tree.specs.Printed.{in_order, tokens_of_file_item}
use Rattle.syntax_tree.specs.Writes.{Writes}
use Rattle.syntax_tree.proofs.print_files.print_file_items.Given as goal

-- whatever end comes to be written behind, all is written to that end
abbrev pub invariant-loop-item : goal.invariant-loop-item
invariant-loop-item l = (end : List ℕ) → Writes l.out.items end (in_order (map tokens_of_file_item (drop l.item-index l.items))) → Writes l.initial.out.items end (in_order (map tokens_of_file_item l.items))

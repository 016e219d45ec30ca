use Rattle.std.proofs.Common.{ℕ, List, map, drop}
use Rattle.syntax_tree.specs.Printed.{in_order, tokens_of_change}
use Rattle.syntax_tree.specs.Writes.{Writes}
use Rattle.syntax_tree.proofs.print_members.print_changes.Given as goal

-- whatever end comes to be written behind, all is written to that end
abbrev pub invariant-loop-change : goal.invariant-loop-change
invariant-loop-change l = (end : List ℕ) → Writes l.out.items end (in_order (map tokens_of_change (drop l.change-index l.changes))) → Writes l.initial.out.items end (in_order (map tokens_of_change l.changes))

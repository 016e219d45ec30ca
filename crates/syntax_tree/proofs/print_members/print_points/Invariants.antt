use Rattle.std.proofs.Common.{ℕ, List, map, drop}
use Rattle.syntax_tree.specs.Printed.{in_order, tokens_of_point}
use Rattle.syntax_tree.specs.Writes.{Writes}
use Rattle.syntax_tree.proofs.print_members.print_points.Given as goal

-- whatever end comes to be written behind, all is written to that end
abbrev pub invariant-loop-ident : goal.invariant-loop-ident
invariant-loop-ident l = (end : List ℕ) → Writes l.out.items end (in_order (map tokens_of_point (drop l.ident-index l.idents))) → Writes l.initial.out.items end (in_order (map tokens_of_point l.idents))

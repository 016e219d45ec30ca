use Rattle.std.proofs.Common.{ℕ, List, map, drop}
use Rattle.syntax_tree.specs.Printed.{in_order, tokens_of_state}
use Rattle.syntax_tree.specs.Writes.{Writes}
use Rattle.syntax_tree.proofs.print_members.print_state_list.Given as goal

-- whatever end comes to be written behind, all is written to that end
abbrev pub invariant-loop-state : goal.invariant-loop-state
invariant-loop-state l = (end : List ℕ) → Writes l.out.items end (in_order (map tokens_of_state (drop l.state-index l.states))) → Writes l.initial.out.items end (in_order (map tokens_of_state l.states))

use Rattle.std.proofs.Common.{ℕ, ◌+◌, ◌*◌, max, List, map, drop}
use Rattle.syntax_tree.specs.declared.statements.Block.{size-Block}
use Rattle.syntax_tree.specs.declared.statements.Else.{size-Else}
use Rattle.syntax_tree.specs.Printed.{in_order, tokens_of_stmt}
use Rattle.syntax_tree.specs.Writes.{Writes}
use Rattle.syntax_tree.proofs.print_stmts.+print_stmts.Given as goal

-- whatever end comes to be written behind, all is written to that end
abbrev pub invariant-print_in_braces-loop-stmt : goal.invariant-print_in_braces-loop-stmt
invariant-print_in_braces-loop-stmt l = (end : List ℕ) → Writes l.out.items end (in_order (map tokens_of_stmt (drop l.stmt-index l.stmts))) → Writes l.initial.out.items end (in_order (map tokens_of_stmt l.stmts))

-- how deep what is printed is
abbrev pub decreases-print_block : goal.decreases-print_block
decreases-print_block l = 3 * goal.size-print_block l

abbrev pub decreases-print_in_braces : goal.decreases-print_in_braces
decreases-print_in_braces l = 3 * goal.size-print_in_braces l + 1

abbrev pub decreases-print_stmt : goal.decreases-print_stmt
decreases-print_stmt l = 3 * goal.size-print_stmt l

abbrev pub decreases-print_if : goal.decreases-print_if
decreases-print_if l = 3 * max (size-Block l.block.now) (size-Else l.otherwise.now) + 1

abbrev pub decreases-print_else : goal.decreases-print_else
decreases-print_else l = 3 * goal.size-print_else l

abbrev pub decreases-print_else_if : goal.decreases-print_else_if
decreases-print_else_if l = 3 * max (size-Block l.block.now) (size-Else l.otherwise.now) + 2

abbrev pub decreases-print_else_block : goal.decreases-print_else_block
decreases-print_else_block l = 3 * goal.size-print_else_block l + 1

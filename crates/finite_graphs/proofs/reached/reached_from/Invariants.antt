use Rattle.std.proofs.Common.{◌+◌, ℕ, [], length}
use Rattle.finite_graphs.specs.Reached.{IsSpread, unmarked}
use Rattle.finite_graphs.specs.Rows.{Steps}
use Rattle.finite_graphs.proofs.reached.reached_from.Given as goal

-- marks spread, and no node is being looked at
abbrev pub invariant-loop-node : goal.invariant-loop-node
invariant-loop-node l = (due : ℕ) × IsSpread (Steps l.rows) l.marks l.reached l.waiting due []

abbrev pub decreases-loop-node : goal.decreases-loop-node
decreases-loop-node l = unmarked l.reached + length l.waiting

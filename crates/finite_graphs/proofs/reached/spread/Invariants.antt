use Rattle.std.proofs.Common.{◌≡◌, ◌+◌, Bool, List, drop, length}
use Rattle.finite_graphs.specs.Reached.{IsSpread, unmarked}
use Rattle.finite_graphs.specs.Rows.{Steps}
use Rattle.finite_graphs.proofs.reached.spread.Given as goal

-- the mark has spread to the ends of the edges so far
abbrev pub invariant-loop-to : goal.invariant-loop-to
invariant-loop-to l = record {
  state : (marks : List Bool) → IsSpread (Steps l.rows) marks l.initial.reached l.initial.waiting l.node l.row → IsSpread (Steps l.rows) marks l.reached l.waiting l.node (drop l.to-index l.row);
  sized : length l.reached ≡ length l.initial.reached;
  count : unmarked l.reached + length l.waiting ≡ unmarked l.initial.reached + length l.initial.waiting;
}

use Rattle.std.proofs.Common.{◌≤◌, length, take}
use Rattle.finite_graphs.specs.Ranks.{IsAbove}
use Rattle.finite_graphs.proofs.ranks.rank_above.Given as goal

-- the number is above the ranks of the row so far
abbrev pub invariant-loop-node : goal.invariant-loop-node
invariant-loop-node l = record {
  above : IsAbove l.ranks (take l.node-index l.row) l.above;
  small : l.above ≤ length l.ranks;
}

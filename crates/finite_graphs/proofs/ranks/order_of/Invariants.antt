use Rattle.finite_graphs.specs.Ranks.{AreNodes}
use Rattle.finite_graphs.proofs.ranks.order_of.Given as goal

-- the nodes so far stand at their labels
abbrev pub invariant-loop-node : goal.invariant-loop-node
invariant-loop-node l = AreNodes l.labels l.order l.node

use Rattle.finite_graphs.proofs.Labels.{AllClosed}
use Rattle.finite_graphs.proofs.walking.labels_of.Given as goal

-- the nodes so far are closed, with all that they reach
abbrev pub invariant-loop-node : goal.invariant-loop-node
invariant-loop-node l = AllClosed l.rows l.search l.node

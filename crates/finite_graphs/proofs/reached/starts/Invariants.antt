use Rattle.finite_graphs.specs.Reached.{AreStarts}
use Rattle.finite_graphs.proofs.reached.starts.Given as goal

-- the marked nodes so far wait
abbrev pub invariant-loop-node : goal.invariant-loop-node
invariant-loop-node l = AreStarts l.marks l.node l.waiting

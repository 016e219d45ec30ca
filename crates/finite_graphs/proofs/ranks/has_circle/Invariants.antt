use Rattle.finite_graphs.proofs.Ranking.{NoneSoFar}
use Rattle.finite_graphs.proofs.ranks.has_circle.Given as goal

-- no edge so far has one label
abbrev pub invariant-loop-edge : goal.invariant-loop-edge
invariant-loop-edge l = NoneSoFar l.labels l.edges l.edge-index

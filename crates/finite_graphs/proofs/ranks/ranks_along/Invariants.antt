use Rattle.finite_graphs.specs.Ranks.{AreRanksBelow}
use Rattle.finite_graphs.proofs.ranks.ranks_along.Given as goal

-- the ranks of the labels so far are right
abbrev pub invariant-loop-label : goal.invariant-loop-label
invariant-loop-label l = AreRanksBelow l.rows l.labels l.ranks l.label

use Rattle.std.proofs.Common.{ℤ}
use Rattle.layout_solve.proofs.Totals.{IsSummed}
use Rattle.layout_solve.proofs.places.sum.Given as goal

-- the sum of the sizes so far
abbrev pub invariant-loop-size : goal.invariant-loop-size
invariant-loop-size l = IsSummed (λ (z : ℤ). z) l.sizes l.size-index l.sum

use Rattle.layout_solve.specs.Sizes.{size_at}
use Rattle.layout_solve.proofs.Totals.{IsSummed}
use Rattle.layout_solve.proofs.levels.total.Given as goal

-- the sum of the items so far
abbrev pub invariant-loop-item : goal.invariant-loop-item
invariant-loop-item l = IsSummed (size_at l.sizing) l.items l.item-index l.sum

use Rattle.std.proofs.Common.{◌≡◌, take}
use Rattle.first_evaluator.specs.Evaluated.{operands_sum}
use Rattle.first_evaluator.proofs.evaluator.sum_value.Given as goal

-- the sum of the products so far
abbrev pub invariant-loop-operands : goal.invariant-loop-operands
invariant-loop-operands l = l.sum ≡ operands_sum l.values (take l.operands-index l.products)

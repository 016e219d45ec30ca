use Rattle.std.proofs.Common.{◌≡◌, take}
use Rattle.first_evaluator.specs.Evaluated.{operands_product}
use Rattle.first_evaluator.proofs.evaluator.product_value.Given as goal

-- the product of the operands so far
abbrev pub invariant-loop-operand : goal.invariant-loop-operand
invariant-loop-operand l = l.product ≡ operands_product l.values (take l.operand-index l.operands)

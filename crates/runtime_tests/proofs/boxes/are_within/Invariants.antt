use Rattle.std.proofs.Common.{All, take}
use Rattle.layout_solve.specs.Items.{IsWithinLimits}
use Rattle.runtime_tests.proofs.boxes.are_within.Given as goal

-- the sizes so far are within the limits
abbrev pub invariant-loop-size : goal.invariant-loop-size
invariant-loop-size l = All IsWithinLimits (take l.size-index l.sizes)

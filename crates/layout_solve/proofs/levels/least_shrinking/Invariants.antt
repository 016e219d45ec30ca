use Rattle.std.proofs.Common.{◌-◌}
use Rattle.layout_solve.proofs.Halving.{IsAround}
use Rattle.layout_solve.proofs.levels.least_shrinking.Given as goal

-- the least number of units is from `low` to `high`
abbrev pub invariant-loop-low : goal.invariant-loop-low
invariant-loop-low l = IsAround l.items l.fn.room l.low l.high

abbrev pub decreases-loop-low : goal.decreases-loop-low
decreases-loop-low l = l.high - l.low

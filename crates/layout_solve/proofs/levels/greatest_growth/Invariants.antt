use Rattle.std.proofs.Common.{◌-◌}
use Rattle.layout_solve.proofs.Halving.{IsBetween}
use Rattle.layout_solve.proofs.levels.greatest_growth.Given as goal

-- the greatest level that fits is from `low` to `high`
abbrev pub invariant-loop-low : goal.invariant-loop-low
invariant-loop-low l = IsBetween l.items l.fn.room l.low l.high

abbrev pub decreases-loop-low : goal.decreases-loop-low
decreases-loop-low l = l.high - l.low

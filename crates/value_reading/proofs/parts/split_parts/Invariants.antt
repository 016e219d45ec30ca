use Rattle.std.proofs.Common.{length, ◌-◌}
use Rattle.value_reading.proofs.PartLemmas.{Splits}
use Rattle.value_reading.proofs.parts.split_parts.Given as goal

-- the parts before this place are made
abbrev pub invariant-loop-at : goal.invariant-loop-at
invariant-loop-at l = Splits l.text l.made l.at

abbrev pub decreases-loop-at : goal.decreases-loop-at
decreases-loop-at l = length l.text - l.at

use Rattle.loop_check.specs.Numbers.{IsRow}
use Rattle.loop_check.proofs.numbers.number_row.Given as goal

-- what there is so far
abbrev pub invariant-loop-number : goal.invariant-loop-number
invariant-loop-number l = IsRow l.home l.number l.initial.things l.things l.row

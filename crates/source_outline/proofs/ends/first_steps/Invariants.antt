use Rattle.std.proofs.Common.{◌≡◌}
use Rattle.source_outline.specs.Ends.{afters}
use Rattle.source_outline.proofs.ends.first_steps.Given as goal

-- the members so far
abbrev pub invariant-loop-number : goal.invariant-loop-number
invariant-loop-number l = l.ends ≡ afters 1 l.nexts 0 l.number

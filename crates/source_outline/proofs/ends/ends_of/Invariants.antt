use Rattle.std.proofs.Common.{◌≡◌, ◌-◌, length}
use Rattle.source_outline.specs.Ends.{afters, enough, steps_for}
use Rattle.source_outline.proofs.ends.ends_of.Given as goal

-- so many steps are taken, and as many are left as rounds
abbrev pub invariant-loop : goal.invariant-loop
invariant-loop l = (l.ends ≡ afters l.steps l.nexts 0 (length l.nexts)) × (enough (l.end - l.counter) (length l.nexts) l.steps ≡ steps_for (length l.nexts))

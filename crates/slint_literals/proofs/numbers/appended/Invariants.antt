use Rattle.slint_literals.proofs.Worths.{Wrote}
use Rattle.slint_literals.proofs.numbers.appended.Given as goal

-- what the digits so far write
abbrev pub invariant-loop-digit : goal.invariant-loop-digit
invariant-loop-digit l = Wrote l.before l.digits l.digit-index l.value

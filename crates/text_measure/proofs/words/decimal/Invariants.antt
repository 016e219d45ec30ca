use Rattle.std.proofs.Common.{◌+◌, ◌*◌, ◌-◌}
use Rattle.text_measure.proofs.Spelled.{IsSpelled}
use Rattle.text_measure.proofs.words.decimal.Given as goal

-- the number of the digits so far
abbrev pub invariant-loop-digit : goal.invariant-loop-digit
invariant-loop-digit l = IsSpelled (λ n b. 10 * n + (b - 48)) l.digits l.digit-index l.number

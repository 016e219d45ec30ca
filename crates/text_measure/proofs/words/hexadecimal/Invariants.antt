use Rattle.std.proofs.Common.{◌+◌, ◌*◌}
use Rattle.text_measure.specs.Grammar.{hex_value}
use Rattle.text_measure.proofs.Spelled.{IsSpelled}
use Rattle.text_measure.proofs.words.hexadecimal.Given as goal

-- the number of the digits so far
abbrev pub invariant-loop-digit : goal.invariant-loop-digit
invariant-loop-digit l = IsSpelled (λ n b. 16 * n + hex_value b) l.digits l.digit-index l.number

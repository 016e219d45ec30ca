use Rattle.std.proofs.Common.{◌-◌, length}
use Rattle.slint_lexer.proofs.NameTexts.{NamedUpTo}
use Rattle.slint_lexer.proofs.names.name_length.Given as goal

-- the bytes so far are a name
abbrev pub invariant-loop-at : goal.invariant-loop-at
invariant-loop-at l = NamedUpTo l.bytes l.at

abbrev pub decreases-loop-at : goal.decreases-loop-at
decreases-loop-at l = length l.bytes - l.at

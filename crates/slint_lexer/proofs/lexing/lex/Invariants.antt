use Rattle.std.proofs.Common.{◌-◌, length}
use Rattle.slint_lexer.proofs.Readings.{ReadUpTo}
use Rattle.slint_lexer.proofs.lexing.lex.Given as goal

-- the bytes so far are these tokens, and leave these marks open
abbrev pub invariant-loop-at : goal.invariant-loop-at
invariant-loop-at l = ReadUpTo l.file l.bytes l.tokens.items l.held.items l.at

abbrev pub decreases-loop-at : goal.decreases-loop-at
decreases-loop-at l = length l.bytes - l.at

use Rattle.std.proofs.Common.{length, drop}
use Rattle.std.specs.Str.{chars}
use Rattle.text_measure.proofs.PenSteps.{IsWriting}
use Rattle.text_measure.proofs.measuring.written.Given as goal

-- the pen and the rest of the text come to what the text comes to
abbrev pub invariant-loop-ch : goal.invariant-loop-ch
invariant-loop-ch l = IsWriting l.table l.size l.fn.width (chars l.text) l.pen (drop (length l.yielded) (chars l.text))

use Rattle.std.proofs.Common.{◌-◌, length}
use Rattle.slint_lexer.proofs.CommentTexts.{LineUpTo}
use Rattle.slint_lexer.proofs.comments.line_walk.Given as goal

-- the comment goes on over the bytes so far
abbrev pub invariant-loop-at : goal.invariant-loop-at
invariant-loop-at l = LineUpTo l.bytes l.at

abbrev pub decreases-loop-at : goal.decreases-loop-at
decreases-loop-at l = length l.bytes - l.at

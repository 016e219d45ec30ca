use Rattle.std.proofs.Common.{◌-◌, length}
use Rattle.slint_lexer.proofs.CommentTexts.{CommentUpTo}
use Rattle.slint_lexer.proofs.comments.comment_walk.Given as goal

-- so many comments are open after so many bytes
abbrev pub invariant-loop-depth : goal.invariant-loop-depth
invariant-loop-depth l = CommentUpTo l.bytes l.depth l.at

abbrev pub decreases-loop-depth : goal.decreases-loop-depth
decreases-loop-depth l = length l.bytes - l.at

use Rattle.std.proofs.Common.{arith}
use Rattle.slint_lexer.proofs.CommentTexts.{line_first, line_more}
use Rattle.slint_lexer.proofs.comments.line_walk.Goals as goal

pub loop-at-init : goal.loop-at-init
loop-at-init c = line_first c.args.bytes.now c.requires

pub loop-at-preserved : goal.loop-at-preserved
loop-at-preserved c = line_more c.args.bytes.now c.split_at.result.1.now c.loop-at.at c.line_step-length.result c.split_at.ensures.back c.loop-at.invariant c.line_step-length.ensures (omega arith)

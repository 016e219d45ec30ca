use Rattle.slint_lexer.proofs.CommentTexts.{comment_first, comment_more}
use Rattle.slint_lexer.proofs.comments.comment_walk.Goals as goal

pub loop-depth-init : goal.loop-depth-init
loop-depth-init c = comment_first c.args.bytes.now c.requires

pub loop-depth-preserved : goal.loop-depth-preserved
loop-depth-preserved c = comment_more c.args.bytes.now c.split_at.result.1.now c.loop-depth.depth c.loop-depth.at c.in-Some.next c.in-Some.length c.split_at.ensures.back c.loop-depth.invariant c.in-Some.ensures

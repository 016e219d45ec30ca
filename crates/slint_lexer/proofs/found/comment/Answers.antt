use Rattle.std.proofs.Common.{arith, refl}
use Rattle.slint_lexer.proofs.Fronts.{comment_is}
use Rattle.slint_lexer.proofs.found.comment.Goals as goal

pub returns : goal.returns
returns c =
    comment_is c.args.ends c.args.bytes.now c.comment_walk-depth.result.0 c.comment_walk-depth.result.1 _ c.comment_found.result c.requires (omega arith) c.comment_walk-depth.ensures refl c.comment_found.ensures

use Rattle.std.proofs.Common.{rules}
use Rattle.expr_rules.proofs.Pieces.{piece_more, last_piece}
use Rattle.expr_rules.proofs.templates.pieces_of.Goals as goal

pub loop-piece-preserved : goal.loop-piece-preserved
loop-piece-preserved c =
    let cut = c.in-Some.ensures.cases in
    (search rules, piece_more c.loop-piece.rest.now c.in-Some.piece.now c.in-Some.behind.now c.in_ok-from_str.field-0 cut.0 cut.1 c.loop-piece.pieces c.push.new.self _ cut.2 cut.3 cut.4 c.in_ok-from_str.ensures c.in_ok-push.ensures.ok c.loop-piece.invariant.1)

pub returns : goal.returns
returns c =
    last_piece c.loop-piece.rest.now c.in_ok-from_str-2.field-0 c.loop-piece.pieces c.push-2.new.self _ c.in_default.ensures.cases c.in_ok-from_str-2.ensures c.in_ok-push-2.ensures.ok c.loop-piece.invariant.1

use Rattle.std.proofs.Common.{Some, ◌∙◌, sym, ap}
use Rattle.source_outline.specs.Following.{rows_within}
use Rattle.source_outline.proofs.Outwards.{outwards_turn, nothing_around, far_enough, outwards_begun}
use Rattle.source_outline.proofs.rows.rows_around.Goals as goal

pub loop-preserved : goal.loop-preserved
loop-preserved c = outwards_turn c.args.elements.now _ _ _ _ _ _ _ _ _ c.loop-test.true c.in-Some.is c.at-outline.ensures c.in_ok-push_row.ensures c.parent_in-around.ensures c.loop.invariant

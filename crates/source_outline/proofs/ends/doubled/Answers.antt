use Rattle.std.proofs.Common.{get_or}
use Rattle.source_outline.specs.Doubling.{again}
use Rattle.source_outline.proofs.Turns.{any_default, map_turn, map_ended}
use Rattle.source_outline.proofs.ends.doubled.Goals as goal

pub loop-end-preserved : goal.loop-end-preserved
loop-end-preserved c = map_turn (again c.args.ends.now) c.args.ends.now c.loop-end.end-index (get_or c.args.ends.now c.loop-end.end-index 0) c.again.result c.loop-end.made c.push.new.self _ (any_default c.args.ends.now c.loop-end.end-index 0 (get_or c.args.ends.now c.loop-end.end-index 0) c.loop-end-test.true) c.loop-end-test.true c.again.ensures c.in_ok-push.ensures.ok c.loop-end.invariant

pub returns : goal.returns
returns c = map_ended (again c.args.ends.now) c.args.ends.now c.loop-end.end-index c.loop-end.made _ c.loop-end-test.false c.loop-end.invariant

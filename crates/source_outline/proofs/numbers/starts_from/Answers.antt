use Rattle.source_outline.proofs.StartTurns.{starts_turn, starts_ended}
use Rattle.source_outline.proofs.numbers.starts_from.Goals as goal

pub loop-size-preserved : goal.loop-size-preserved
loop-size-preserved c = starts_turn c.args.sizes.now c.loop-size.size-index c.loop-size.start _ c.loop-size.starts c.push.new.self _ c.loop-size-test.true c.in_ok-push.ensures.ok c.in_ok-start.ensures c.loop-size.invariant

pub returns : goal.returns
returns c = starts_ended c.args.sizes.now c.loop-size.size-index c.loop-size.start c.loop-size.starts _ c.loop-size-test.false c.loop-size.invariant

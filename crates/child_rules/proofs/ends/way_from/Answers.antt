use Rattle.child_rules.proofs.BackWays.{going_on}
use Rattle.child_rules.proofs.ends.way_from.Goals as goal

pub loop-preserved : goal.loop-preserved
loop-preserved c = going_on c.args.places.now.comps c.args.from _ _ c.in-Component.component c.loop.comps c.push.new.self c.loop.to c.taker-to.result c.loop-test.true c.loop.invariant c.in-Component.is c.in_ok-push.ensures.ok (cc)

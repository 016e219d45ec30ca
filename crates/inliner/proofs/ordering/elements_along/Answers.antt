use Rattle.std.specs.Prelude.{reverse}
use Rattle.inliner.proofs.Orders.{order_ends, order_goes}
use Rattle.inliner.proofs.ordering.elements_along.Goals as goal

pub loop-preserved : goal.loop-preserved
loop-preserved c = order_goes c.args.ways.now.comps.now c.args.ways.now.bodies.now c.args.ways.now.places.now _ _ c.loop.elements c.loop.stack c.pop.new.self c.in-Some.task c.push_all.new.stack
    c.loop-test.true c.in-Some.ensures c.in_ok-more.ensures.elements c.in_ok-more.ensures.tasks c.in_ok-push_all.ensures c.loop.invariant

pub returns : goal.returns
returns c = order_ends c.args.ways.now.comps.now c.args.ways.now.bodies.now c.args.ways.now.places.now _ _ c.loop.elements (reverse c.loop.stack) c.loop-test.false c.loop.invariant

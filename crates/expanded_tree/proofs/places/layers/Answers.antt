use Rattle.expanded_tree.proofs.FurtherIn.{layers_end, layers_go}
use Rattle.expanded_tree.proofs.places.layers.Goals as goal

pub loop-preserved : goal.loop-preserved
loop-preserved c = layers_go c.args.bodies.now c.args.places.now _ _ c.loop.found c.in-Some.layer c.loop-test.true c.loop.invariant c.in-Some.is c.in_ok-push.ensures.ok c.inwards-next.ensures

pub returns : goal.returns
returns c = layers_end c.args.bodies.now c.args.places.now _ _ c.loop.found _ c.loop-test.false c.loop.invariant

use Rattle.expanded_tree.proofs.FurtherIn.{innermost_ends, innermost_goes}
use Rattle.expanded_tree.proofs.places.innermost.Goals as goal

pub loop-preserved : goal.loop-preserved
loop-preserved c = innermost_goes c.args.bodies.now c.args.places.now _ _ _ _ c.loop-test.true c.loop.invariant c.in-Some.is c.inwards-next.ensures

pub returns : goal.returns
returns c = innermost_ends c.args.bodies.now c.args.places.now _ _ _ _ c.loop-test.false c.loop.invariant

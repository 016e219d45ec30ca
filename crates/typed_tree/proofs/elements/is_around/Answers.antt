use Rattle.typed_tree.proofs.Walks.{around_goes}
use Rattle.typed_tree.proofs.elements.is_around.Goals as goal

pub loop-preserved : goal.loop-preserved
loop-preserved c = around_goes c.args.elements.now _ _ _ _ c.loop-test.true c.if-element-outer.false c.loop.invariant c.in-Some.is c.parent_of-around.ensures

use Rattle.expanded_tree.specs.Bodies.{growth_of}
use Rattle.inliner.proofs.Grows.{level_turn}
use Rattle.inliner.proofs.growing.Growth.push_level.Goals as goal

pub loop-body-preserved : goal.loop-body-preserved
loop-body-preserved c = level_turn c.args.comps.now c.len-end.result c.loop-body.body (growth_of c.loop-body.self.bodies c.loop-body.self.places) c.loop-body-test.true c.in_ok-push_inside.ensures c.loop-body.invariant

use Rattle.std.proofs.Common.{◌∙◌, ◌-◌, length}
use Rattle.expanded_tree.specs.Bodies.{growth_of}
use Rattle.inliner.proofs.Grows.{levels_stop, levels_turn}
use Rattle.inliner.proofs.growing.whole_growth.Goals as goal

pub returns-then-first-end : goal.returns-then-first-end
returns-then-first-end c = levels_stop (length c.args.comps.now - c.loop.counter) c.args.comps.now c.loop.first (c.if-first-end.true ∙ c.len-end.ensures) c.loop.invariant

pub loop-preserved : goal.loop-preserved
loop-preserved c = levels_turn c.args.comps.now (length c.args.comps.now) c.loop.counter c.loop.first c.len-end.result (growth_of c.loop.growth.bodies c.loop.growth.places) c.loop-test.true c.len-end.ensures c.in_ok-push_level.ensures c.loop.invariant

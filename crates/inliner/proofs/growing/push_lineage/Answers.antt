use Rattle.std.proofs.Common.{ap}
use Rattle.std.specs.Prelude.{Some}
use Rattle.expanded_tree.specs.Bodies.{spot_of}
use Rattle.inliner.proofs.Grows.{lineage_ends, lineage_goes}
use Rattle.inliner.proofs.growing.push_lineage.Goals as goal

pub loop-preserved : goal.loop-preserved
loop-preserved c = lineage_goes c.args.comps.now _ _ c.in-Some.comp c.loop.depth c.loop.spot c.loop.ty c.loop.bodies c.loop-test.true c.loop.invariant c.in-Some.ensures c.in_ok-push_body.ensures
    (ap (λ n. Some (spot_of n 0)) c.len-body.ensures) c.in_ok-depth.ensures c.base_at-ty.ensures

pub returns : goal.returns
returns c = lineage_ends c.args.comps.now _ _ c.loop.depth c.loop.spot c.loop.ty c.loop.bodies c.loop-test.false c.loop.invariant

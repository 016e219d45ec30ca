use Rattle.declaration_rules.proofs.Circling.{within-all, within-next, within-none}
use Rattle.declaration_rules.proofs.circles.node_count.Goals as goal

pub loop-one-init : goal.loop-one-init
loop-one-init c = within-none

pub loop-one-preserved : goal.loop-one-preserved
loop-one-preserved c =
    within-next c.args.usages.now c.loop-one.one-index _ c.loop-one.count c.in_ok-count.count c.loop-one-test.true c.loop-one.invariant c.in_ok-count.ensures

pub returns : goal.returns
returns c = within-all c.args.usages.now c.loop-one.one-index c.loop-one.count c.loop-one-test.false c.loop-one.invariant

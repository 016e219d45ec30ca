use Rattle.alias_merge.proofs.Labelling.{below_all, below_next, below_none}
use Rattle.alias_merge.proofs.labels.limit_of.Goals as goal

pub loop-group-init : goal.loop-group-init
loop-group-init c = below_none 0

pub loop-group-preserved : goal.loop-group-preserved
loop-group-preserved c = below_next c.args.groups.now c.loop-group.group-index _ c.loop-group.limit c.in_ok-limit.limit c.loop-group-test.true c.loop-group.invariant c.in_ok-limit.ensures

pub returns : goal.returns
returns c = below_all c.args.groups.now c.loop-group.group-index c.loop-group.limit c.loop-group-test.false c.loop-group.invariant

use Rattle.alias_merge.proofs.Labelling.{firsts_all, firsts_next, firsts_none}
use Rattle.alias_merge.proofs.labels.firsts.Goals as goal

pub loop-member-init : goal.loop-member-init
loop-member-init c = firsts_none c.args.limit c.args.groups.now c.in_ok-firsts.firsts c.in_ok-firsts.ensures

pub loop-member-preserved : goal.loop-member-preserved
loop-member-preserved c =
    firsts_next c.args.limit c.args.groups.now c.loop-member.member _ c.loop-member.firsts c.note_first.new.firsts c.requires c.loop-member-test.true c.loop-member.invariant c.note_first.ensures

pub returns : goal.returns
returns c = firsts_all c.args.limit c.args.groups.now c.loop-member.member c.loop-member.firsts c.loop-member-test.false c.loop-member.invariant

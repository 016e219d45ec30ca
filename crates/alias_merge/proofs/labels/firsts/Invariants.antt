use Rattle.alias_merge.specs.Labels.{AreFirsts}
use Rattle.alias_merge.proofs.labels.firsts.Given as goal

-- the first members of groups, so far as these have members that were looked at
abbrev pub invariant-loop-member : goal.invariant-loop-member
invariant-loop-member l = AreFirsts l.limit l.groups l.member l.firsts

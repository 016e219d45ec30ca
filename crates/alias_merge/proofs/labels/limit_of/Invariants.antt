use Rattle.std.proofs.Common.{take}
use Rattle.alias_merge.specs.Labels.{AreBelow}
use Rattle.alias_merge.proofs.labels.limit_of.Given as goal

-- the groups so far are below the limit
abbrev pub invariant-loop-group : goal.invariant-loop-group
invariant-loop-group l = AreBelow l.limit (take l.group-index l.groups)

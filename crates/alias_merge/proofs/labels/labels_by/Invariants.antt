use Rattle.std.proofs.Common.{◌≡◌, map, take}
use Rattle.alias_merge.specs.Labels.{first_by}
use Rattle.alias_merge.proofs.labels.labels_by.Given as goal

-- what there is so far
abbrev pub invariant-loop-group : goal.invariant-loop-group
invariant-loop-group l = l.labels ≡ map (first_by l.firsts) (take l.group-index l.groups)

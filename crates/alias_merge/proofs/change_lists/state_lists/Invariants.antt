use Rattle.std.proofs.Common.{◌≡◌, take}
use Rattle.std.specs.List.{flat_map}
use Rattle.alias_merge.specs.ChangeLists.{lists_at}
use Rattle.alias_merge.proofs.change_lists.state_lists.Given as goal

-- those of the holders so far
abbrev pub invariant-loop-holder : goal.invariant-loop-holder
invariant-loop-holder l = l.found ≡ flat_map (lists_at l.expanded) (take l.holder-index l.holders)

use Rattle.std.proofs.Common.{◌≡◌, take}
use Rattle.alias_merge.specs.ChangeLists.{changes_in}
use Rattle.alias_merge.proofs.change_lists.state_changes.Given as goal

-- those of the lists so far
abbrev pub invariant-loop-number : goal.invariant-loop-number
invariant-loop-number l = l.found ≡ changes_in l.expanded l.numbers (take l.number l.lists)

use Rattle.std.proofs.Common.{◌≡◌, ◌++◌, take}
use Rattle.alias_merge.specs.ChangeLists.{lists_in}
use Rattle.alias_merge.proofs.change_lists.add_lists.Given as goal

-- those of the items so far
abbrev pub invariant-loop-number : goal.invariant-loop-number
invariant-loop-number l = l.found ≡ l.initial.found ++ lists_in l.holding (take l.number l.items)

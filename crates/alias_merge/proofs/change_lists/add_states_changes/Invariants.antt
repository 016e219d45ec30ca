use Rattle.std.proofs.Common.{◌≡◌, ◌++◌, take}
use Rattle.alias_merge.specs.ChangeLists.{changes_in_states}
use Rattle.alias_merge.proofs.change_lists.add_states_changes.Given as goal

-- those of the states so far
abbrev pub invariant-loop-number : goal.invariant-loop-number
invariant-loop-number l = l.found ≡ l.initial.found ++ changes_in_states l.expanded l.numbers l.body l.list_number (take l.number l.states)

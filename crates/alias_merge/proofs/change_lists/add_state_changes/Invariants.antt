use Rattle.std.proofs.Common.{◌≡◌, ◌++◌, take}
use Rattle.std.specs.Option.{option_to_list}
use Rattle.alias_merge.specs.Candidates.{numbered_all}
use Rattle.alias_merge.specs.ChangeLists.{change_of}
use Rattle.alias_merge.proofs.change_lists.add_state_changes.Given as goal

-- those of the changes so far
abbrev pub invariant-loop-number : goal.invariant-loop-number
invariant-loop-number l =
    l.found ≡ l.initial.found ++ numbered_all (λ i c. option_to_list (change_of l.expanded l.numbers l.body l.list_number l.state_number i c)) 0 (take l.number l.changes)

use Rattle.std.proofs.Common.{◌≡◌, ◌++◌, take}
use Rattle.alias_merge.specs.Candidates.{handlers_in}
use Rattle.alias_merge.proofs.candidates.add_handlers.Given as goal

-- those of the items so far
abbrev pub invariant-loop-number : goal.invariant-loop-number
invariant-loop-number l = l.found ≡ l.initial.found ++ handlers_in l.expanded l.numbers l.holding (take l.number l.items)

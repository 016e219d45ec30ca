use Rattle.std.proofs.Common.{◌≡◌, take}
use Rattle.alias_merge.specs.Candidates.{defaults_of, numbered_all}
use Rattle.alias_merge.proofs.candidates.defaults.Given as goal

-- those of the elements so far
abbrev pub invariant-loop-number : goal.invariant-loop-number
invariant-loop-number l = l.found ≡ numbered_all (defaults_of l.expanded l.numbers) 0 (take l.number l.elements)

use Rattle.std.proofs.Common.{◌≡◌, ◌++◌, take}
use Rattle.std.specs.List.{flat_map}
use Rattle.std.specs.Option.{option_to_list}
use Rattle.alias_merge.specs.Candidates.{default_of}
use Rattle.alias_merge.proofs.candidates.add_defaults.Given as goal

-- those of the members so far
abbrev pub invariant-loop-member : goal.invariant-loop-member
invariant-loop-member l = l.found ≡ l.initial.found ++ flat_map (λ i. option_to_list (default_of l.expanded l.numbers l.number l.element i)) (take l.member-index l.members)

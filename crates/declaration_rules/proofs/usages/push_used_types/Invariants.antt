use Rattle.std.proofs.Common.{◌≡◌, take, ◌++◌}
use Rattle.std.specs.List.{flat_map}
use Rattle.declaration_rules.specs.Circles.{usage_of_type}
use Rattle.declaration_rules.proofs.usages.push_used_types.Given as goal

-- what the front of the list comes to is there
abbrev pub invariant-loop-word : goal.invariant-loop-word
invariant-loop-word l = l.out ≡ l.initial.out ++ flat_map (usage_of_type l.scopes l.from l.file) (take l.word-index l.words)

use Rattle.std.proofs.Common.{◌≡◌, take, ◌++◌}
use Rattle.std.specs.List.{flat_map}
use Rattle.declaration_rules.specs.Words.{words_of_parameter}
use Rattle.declaration_rules.proofs.type_words.push_each.Given as goal

-- what the front of the list comes to is there
abbrev pub invariant-loop-parameter : goal.invariant-loop-parameter
invariant-loop-parameter l = l.out ≡ l.initial.out ++ flat_map words_of_parameter (take l.parameter-index l.parameters)

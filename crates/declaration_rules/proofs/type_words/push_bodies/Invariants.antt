use Rattle.std.proofs.Common.{◌≡◌, take, ◌++◌}
use Rattle.std.specs.List.{flat_map}
use Rattle.declaration_rules.specs.Words.{words_of_written}
use Rattle.declaration_rules.proofs.type_words.push_bodies.Given as goal

-- what the front of the list comes to is there
abbrev pub invariant-loop-element : goal.invariant-loop-element
invariant-loop-element l = l.out ≡ l.initial.out ++ flat_map words_of_written (take l.element-index l.elements)

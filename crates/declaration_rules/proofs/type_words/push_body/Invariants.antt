use Rattle.std.proofs.Common.{◌≡◌, take, ◌++◌}
use Rattle.std.specs.List.{flat_map}
use Rattle.declaration_rules.specs.Words.{words_of_item}
use Rattle.declaration_rules.proofs.type_words.push_body.Given as goal

-- what the front of the list comes to is there
abbrev pub invariant-loop-item : goal.invariant-loop-item
invariant-loop-item l = l.out ≡ l.initial.out ++ flat_map words_of_item (take l.item-index l.items)

use Rattle.std.proofs.Common.{◌≡◌, take}
use Rattle.std.specs.List.{flat_map}
use Rattle.declaration_rules.specs.Words.{listed_words_of}
use Rattle.declaration_rules.proofs.words.listed_words.Given as goal

-- what the front of the list comes to is there
abbrev pub invariant-loop-item : goal.invariant-loop-item
invariant-loop-item l = l.words ≡ flat_map listed_words_of (take l.item-index l.items)

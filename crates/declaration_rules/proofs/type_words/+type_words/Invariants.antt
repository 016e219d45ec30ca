use Rattle.std.proofs.Common.{◌≡◌, ◌++◌, take}
use Rattle.std.specs.List.{flat_map}
use Rattle.declaration_rules.specs.Words.{words_of_field}
use Rattle.declaration_rules.proofs.type_words.+type_words.Given as goal

-- what the front of the list comes to is there
abbrev pub invariant-push_fields-loop-field : goal.invariant-push_fields-loop-field
invariant-push_fields-loop-field l = l.out ≡ l.initial.out ++ flat_map words_of_field (take l.field-index l.fields)

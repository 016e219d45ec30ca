use Rattle.std.proofs.Common.{◌≡◌, take, map}
use Rattle.declaration_rules.specs.Repeats.{field_name}
use Rattle.declaration_rules.proofs.repeats.field_words.Given as goal

-- what the front of the list comes to is there
abbrev pub invariant-loop-field : goal.invariant-loop-field
invariant-loop-field l = l.words ≡ map field_name (take l.field-index l.fields)

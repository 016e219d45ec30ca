use Rattle.std.proofs.Common.{◌≡◌, drop}
use Rattle.value_types.specs.Conversions.{field_named}
use Rattle.value_reading.proofs.reading.type_named.Given as goal

-- the field is among those that are left, if there is one
abbrev pub invariant-loop-field : goal.invariant-loop-field
invariant-loop-field l = field_named l.word l.fields ≡ field_named l.word (drop l.field-index l.fields)

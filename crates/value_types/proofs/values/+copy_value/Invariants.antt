use Rattle.std.proofs.Common.{◌≡◌, take}
use Rattle.value_types.proofs.values.+copy_value.Given as goal

-- the fields so far
abbrev pub invariant-copy_field_values-loop-field : goal.invariant-copy_field_values-loop-field
invariant-copy_field_values-loop-field l = l.made ≡ take l.field-index l.fields

-- the values so far
abbrev pub invariant-copy_values-loop-value : goal.invariant-copy_values-loop-value
invariant-copy_values-loop-value l = l.made ≡ take l.value-index l.values

use Rattle.std.proofs.Common.{◌≡◌, take}
use Rattle.value_types.proofs.types.+copy_type.Given as goal

-- the fields so far
abbrev pub invariant-copy_fields-loop-field : goal.invariant-copy_fields-loop-field
invariant-copy_fields-loop-field l = l.made ≡ take l.field-index l.fields

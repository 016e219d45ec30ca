use Rattle.std.proofs.Common.{◌≡◌, drop}
use Rattle.value_types.specs.Conversions.{field_named}
use Rattle.expr_types.proofs.places.field_type.Given as goal

-- the field is among those that are left, if there is one
abbrev pub invariant-loop-field : goal.invariant-loop-field
invariant-loop-field l = field_named l.name l.fields ≡ field_named l.name (drop l.field-index l.fields)

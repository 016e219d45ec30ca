use Rattle.std.proofs.Common.{◌≡◌, drop}
use Rattle.value_types.specs.Conversions.{field_named}
use Rattle.value_types.proofs.common_types.place_of.Given as goal

-- the field is among those that are left, if there is one
abbrev pub invariant-loop-place : goal.invariant-loop-place
invariant-loop-place l = field_named l.name l.fields ≡ field_named l.name (drop l.place l.fields)

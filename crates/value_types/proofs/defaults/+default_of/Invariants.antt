use Rattle.std.proofs.Common.{◌≡◌, take, map}
use Rattle.value_types.specs.Defaults.{default_value}
use Rattle.value_types.proofs.defaults.+default_of.Given as goal

-- the fields so far
abbrev pub invariant-default_fields-loop-field : goal.invariant-default_fields-loop-field
invariant-default_fields-loop-field l = l.made ≡ map (λ field. (field.0, default_value field.1)) (take l.field-index l.fields)

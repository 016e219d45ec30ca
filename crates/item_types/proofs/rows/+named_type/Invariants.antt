use Rattle.std.proofs.Common.{◌≡◌, take, map}
use Rattle.item_types.specs.Rows.{named_type}
use Rattle.item_types.proofs.rows.+named_type.Given as goal

-- the fields so far
abbrev pub invariant-named_fields-loop-field : goal.invariant-named_fields-loop-field
invariant-named_fields-loop-field l = l.made ≡ map (λ field. (field.0, named_type field.1)) (take l.field-index l.fields)

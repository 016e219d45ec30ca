use Rattle.std.proofs.Common.{◌≡◌, ◌++◌, map, take}
use Rattle.std.specs.List.{flat_map}
use Rattle.fault_order.specs.Order.{first_of}
use Rattle.declaration_rules.specs.Repeats.{field_name, inner_of, repeated}
use Rattle.declaration_rules.proofs.repeats.+repeated_fields.Given as goal

-- the first fault of the names, and of the types of the fields so far, is told
abbrev pub invariant-repeated_in_fields-loop-field : goal.invariant-repeated_in_fields-loop-field
invariant-repeated_in_fields-loop-field l = l.first ≡ first_of (repeated (map field_name l.fields) ++ flat_map inner_of (take l.field-index l.fields))

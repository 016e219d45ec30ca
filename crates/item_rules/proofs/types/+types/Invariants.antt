use Rattle.std.proofs.Common.{◌≡◌, drop}
use Rattle.std.specs.List.{flat_map}
use Rattle.fault_order.specs.Order.{earlier_of, first_of}
use Rattle.item_rules.specs.Types.{field_faults}
use Rattle.item_rules.proofs.types.+types.Given as goal

-- what is told so far, and what the fields from here on come to, is what all come to
abbrev pub invariant-types_fault-loop-field : goal.invariant-types_fault-loop-field
invariant-types_fault-loop-field l = earlier_of l.first (first_of (flat_map field_faults (drop l.field-index l.fields))) ≡ first_of (flat_map field_faults l.fields)

use Rattle.std.proofs.Common.{◌≡◌, drop}
use Rattle.std.specs.List.{filter_map}
use Rattle.fault_order.specs.Order.{earlier_of, first_of}
use Rattle.item_rules.specs.Twice.{twice_behind, twice_in}
use Rattle.item_rules.specs.Types.{field_name}
use Rattle.item_rules.proofs.types.twice_fields.Given as goal

-- what is told so far, and what the names from here on come to, is what all come to
abbrev pub invariant-loop-field : goal.invariant-loop-field
invariant-loop-field l = earlier_of l.fault (first_of (twice_behind l.seen (filter_map field_name (drop l.field-index l.fields)))) ≡ first_of (twice_in (filter_map field_name l.fields))

use Rattle.std.proofs.Common.{◌≡◌, take}
use Rattle.std.specs.List.{flat_map}
use Rattle.fault_order.specs.Order.{first_of}
use Rattle.declaration_rules.specs.Repeats.{repeated_in_item}
use Rattle.declaration_rules.proofs.repeats.repeated_in_items.Given as goal

-- the first fault of the front of the list is told
abbrev pub invariant-loop-item : goal.invariant-loop-item
invariant-loop-item l = l.first ≡ first_of (flat_map repeated_in_item (take l.item-index l.items))

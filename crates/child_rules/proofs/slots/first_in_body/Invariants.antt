use Rattle.std.proofs.Common.{◌≡◌, drop}
use Rattle.std.specs.List.{flat_map}
use Rattle.fault_order.specs.Order.{earlier_of, first_of}
use Rattle.child_rules.specs.Children.{at_slot_of}
use Rattle.child_rules.proofs.slots.first_in_body.Given as goal

-- what is told so far, and what the rest comes to, is what all come to
abbrev pub invariant-loop-item : goal.invariant-loop-item
invariant-loop-item l = earlier_of l.first (first_of (flat_map at_slot_of (drop l.item-index l.items))) ≡ first_of (flat_map at_slot_of l.items)

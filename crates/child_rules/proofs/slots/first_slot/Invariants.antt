use Rattle.std.proofs.Common.{◌≡◌, drop}
use Rattle.std.specs.List.{flat_map}
use Rattle.fault_order.specs.Order.{earlier_of, first_of}
use Rattle.child_rules.specs.Children.{at_slots_of}
use Rattle.child_rules.proofs.slots.first_slot.Given as goal

-- what is told so far, and what the rest comes to, is what all come to
abbrev pub invariant-loop-element : goal.invariant-loop-element
invariant-loop-element l = earlier_of l.first (first_of (flat_map at_slots_of (drop l.element-index l.written))) ≡ first_of (flat_map at_slots_of l.written)

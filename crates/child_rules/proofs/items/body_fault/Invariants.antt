use Rattle.std.proofs.Common.{◌≡◌, drop}
use Rattle.std.specs.List.{flat_map}
use Rattle.fault_order.specs.Order.{earlier_of, first_of}
use Rattle.child_rules.specs.Children.{one_item_faults}
use Rattle.child_rules.proofs.items.body_fault.Given as goal

-- what is told so far, and what the rest comes to, is what all come to
abbrev pub invariant-loop-item : goal.invariant-loop-item
invariant-loop-item l = earlier_of l.first (first_of (flat_map (one_item_faults l.places l.body.component l.body.element l.slot) (drop l.item-index l.items))) ≡ first_of (flat_map (one_item_faults l.places l.body.component l.body.element l.slot) l.items)

use Rattle.std.proofs.Common.{◌≡◌, drop}
use Rattle.std.specs.List.{flat_map}
use Rattle.fault_order.specs.Order.{earlier_of, first_of}
use Rattle.child_rules.specs.Children.{change_faults}
use Rattle.child_rules.proofs.items.state_fault.Given as goal

-- what is told so far, and what the rest comes to, is what all come to
abbrev pub invariant-loop-change : goal.invariant-loop-change
invariant-loop-change l = earlier_of l.first (first_of (flat_map (change_faults l.places l.body.component l.body.element) (drop l.change-index l.changes))) ≡ first_of (flat_map (change_faults l.places l.body.component l.body.element) l.changes)

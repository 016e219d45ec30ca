use Rattle.std.proofs.Common.{◌≡◌, drop}
use Rattle.std.specs.List.{flat_map}
use Rattle.fault_order.specs.Order.{earlier_of, first_of}
use Rattle.child_rules.specs.Children.{state_faults}
use Rattle.child_rules.proofs.items.states_fault.Given as goal

-- what is told so far, and what the rest comes to, is what all come to
abbrev pub invariant-loop-state : goal.invariant-loop-state
invariant-loop-state l = earlier_of l.first (first_of (flat_map (state_faults l.places l.body.component l.body.element) (drop l.state-index l.states))) ≡ first_of (flat_map (state_faults l.places l.body.component l.body.element) l.states)

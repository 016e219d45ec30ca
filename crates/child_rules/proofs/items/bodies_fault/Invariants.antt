use Rattle.std.proofs.Common.{◌≡◌, drop}
use Rattle.fault_order.specs.Order.{earlier_of, first_of, numbered}
use Rattle.child_rules.specs.Children.{body_faults}
use Rattle.child_rules.proofs.items.bodies_fault.Given as goal

-- what is told so far, and what the rest comes to, is what all come to
abbrev pub invariant-loop-number : goal.invariant-loop-number
invariant-loop-number l = earlier_of l.first (first_of (numbered (body_faults l.places l.component l.slot) l.number (drop l.number l.written))) ≡ first_of (numbered (body_faults l.places l.component l.slot) 0 l.written)

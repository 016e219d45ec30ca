use Rattle.std.proofs.Common.{◌≡◌, drop}
use Rattle.fault_order.specs.Order.{earlier_of, first_of, numbered}
use Rattle.child_rules.specs.Children.{element_faults}
use Rattle.child_rules.proofs.children.elements_fault.Given as goal

-- what is told so far, and what the rest comes to, is what all come to
abbrev pub invariant-loop-number : goal.invariant-loop-number
invariant-loop-number l = earlier_of l.first (first_of (numbered (element_faults l.places.comps l.component) l.number (drop l.number l.elements))) ≡ first_of (numbered (element_faults l.places.comps l.component) 0 l.elements)

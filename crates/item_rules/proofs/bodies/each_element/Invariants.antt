use Rattle.std.proofs.Common.{◌≡◌, drop}
use Rattle.fault_order.specs.Order.{earlier_of, first_of, numbered}
use Rattle.item_rules.specs.Items.{element_faults}
use Rattle.item_rules.proofs.bodies.each_element.Given as goal

-- what is told so far, and what the rest comes to, is what all come to
abbrev pub invariant-loop-number : goal.invariant-loop-number
invariant-loop-number l = earlier_of l.first (first_of (numbered (element_faults l.names l.component l.elements) l.number (drop l.number l.elements))) ≡ first_of (numbered (element_faults l.names l.component l.elements) 0 l.elements)

use Rattle.std.proofs.Common.{◌≡◌, drop, map}
use Rattle.fault_order.specs.Order.{earlier_of, first_of, numbered}
use Rattle.source_scopes.specs.Shown.{shown_component}
use Rattle.child_rules.specs.Source.{component_faults}
use Rattle.child_rules.proofs.source.declared_fault.Given as goal

-- what is told so far, and what the rest comes to, is what all come to
abbrev pub invariant-loop-number : goal.invariant-loop-number
invariant-loop-number l = earlier_of l.first (first_of (numbered (component_faults (map shown_component l.declared) l.places) l.number (drop l.number (map shown_component l.declared)))) ≡ first_of (numbered (component_faults (map shown_component l.declared) l.places) 0 (map shown_component l.declared))

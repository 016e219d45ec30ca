use Rattle.std.proofs.Common.{◌≡◌, drop, map}
use Rattle.fault_order.specs.Order.{earlier_of, first_of, numbered}
use Rattle.source_scopes.specs.Shown.{shown_global}
use Rattle.item_rules.specs.Items.{global_faults}
use Rattle.item_rules.proofs.source.globals_fault.Given as goal

-- what is told so far, and what the rest comes to, is what all come to
abbrev pub invariant-loop-number : goal.invariant-loop-number
invariant-loop-number l = earlier_of l.first (first_of (numbered (global_faults l.names) l.number (map shown_global (drop l.number l.globals)))) ≡ first_of (numbered (global_faults l.names) 0 (map shown_global l.globals))

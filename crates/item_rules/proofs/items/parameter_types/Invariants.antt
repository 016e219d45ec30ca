use Rattle.std.proofs.Common.{◌≡◌, drop}
use Rattle.std.specs.List.{flat_map}
use Rattle.fault_order.specs.Order.{earlier_of, first_of}
use Rattle.item_rules.specs.Items.{parameter_faults}
use Rattle.item_rules.proofs.items.parameter_types.Given as goal

-- what is told so far, and what the rest comes to, is what all come to
abbrev pub invariant-loop-parameter : goal.invariant-loop-parameter
invariant-loop-parameter l = earlier_of l.first (first_of (flat_map parameter_faults (drop l.parameter-index l.parameters))) ≡ first_of (flat_map parameter_faults l.parameters)

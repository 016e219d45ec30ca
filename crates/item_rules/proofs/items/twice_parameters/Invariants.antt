use Rattle.std.proofs.Common.{◌≡◌, drop}
use Rattle.std.specs.List.{filter_map}
use Rattle.fault_order.specs.Order.{earlier_of, first_of}
use Rattle.item_rules.specs.Twice.{twice_behind, twice_in}
use Rattle.item_rules.specs.Items.{parameter_name}
use Rattle.item_rules.proofs.items.twice_parameters.Given as goal

-- what is told so far, and what the names from here on come to, is what all come to
abbrev pub invariant-loop-parameter : goal.invariant-loop-parameter
invariant-loop-parameter l = earlier_of l.fault (first_of (twice_behind l.seen (filter_map parameter_name (drop l.parameter-index l.parameters)))) ≡ first_of (twice_in (filter_map parameter_name l.parameters))

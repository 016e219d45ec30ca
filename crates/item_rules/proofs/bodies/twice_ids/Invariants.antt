use Rattle.std.proofs.Common.{◌≡◌, drop}
use Rattle.std.specs.List.{filter_map}
use Rattle.fault_order.specs.Order.{earlier_of, first_of}
use Rattle.item_rules.specs.Twice.{twice_behind, twice_in}
use Rattle.item_rules.specs.Items.{id_of}
use Rattle.item_rules.proofs.bodies.twice_ids.Given as goal

-- what is told so far, and what the names from here on come to, is what all come to
abbrev pub invariant-loop-element : goal.invariant-loop-element
invariant-loop-element l = earlier_of l.fault (first_of (twice_behind l.seen (filter_map id_of (drop l.element-index l.elements)))) ≡ first_of (twice_in (filter_map id_of l.elements))

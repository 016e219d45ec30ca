use Rattle.std.proofs.Common.{◌≡◌, drop}
use Rattle.std.specs.List.{filter_map}
use Rattle.fault_order.specs.Order.{earlier_of, first_of}
use Rattle.item_rules.specs.Twice.{twice_behind, twice_in}
use Rattle.item_rules.proofs.Turns.{own_name}
use Rattle.item_rules.proofs.twice.twice_in.Given as goal

-- what is told so far, and what the names from here on come to, is what all come to
abbrev pub invariant-loop-name : goal.invariant-loop-name
invariant-loop-name l = earlier_of l.fault (first_of (twice_behind l.seen (filter_map own_name (drop l.name-index l.names)))) ≡ first_of (twice_in (filter_map own_name l.names))

use Rattle.std.proofs.Common.{◌≡◌, drop}
use Rattle.std.specs.List.{filter_map}
use Rattle.fault_order.specs.Order.{earlier_of, first_of}
use Rattle.item_rules.specs.Twice.{twice_behind, twice_in}
use Rattle.item_rules.specs.Named.{name_by}
use Rattle.item_rules.proofs.names.twice_by.Given as goal

-- what is told so far, and what the names from here on come to, is what all come to
abbrev pub invariant-loop-item : goal.invariant-loop-item
invariant-loop-item l = earlier_of l.fault (first_of (twice_behind l.seen (filter_map (name_by l.kind) (drop l.item-index l.items)))) ≡ first_of (twice_in (filter_map (name_by l.kind) l.items))

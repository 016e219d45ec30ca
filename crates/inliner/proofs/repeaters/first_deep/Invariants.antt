use Rattle.std.proofs.Common.{◌≡◌, drop}
use Rattle.fault_order.specs.Order.{earlier_of}
use Rattle.inliner.specs.Extents.{extent_at, first_deep}
use Rattle.inliner.proofs.repeaters.first_deep.Given as goal

abbrev pub invariant-loop-number : goal.invariant-loop-number
invariant-loop-number l = earlier_of l.first (first_deep (extent_at l.table) l.around l.elements l.number (drop l.number l.elements))
    ≡ first_deep (extent_at l.table) l.around l.elements 0 l.elements

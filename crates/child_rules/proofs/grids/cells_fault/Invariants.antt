use Rattle.std.proofs.Common.{◌≡◌, drop}
use Rattle.fault_order.specs.Order.{earlier_of, first_of}
use Rattle.child_rules.specs.Grids.{cells_faults}
use Rattle.child_rules.proofs.grids.cells_fault.Given as goal

-- what is told so far, and what the cells that are left come to, is what all come to
abbrev pub invariant-loop-number : goal.invariant-loop-number
invariant-loop-number l = earlier_of l.first (first_of (cells_faults l.places.comps l.component l.cursors l.number (drop l.number l.written))) ≡ first_of (cells_faults l.places.comps l.component l.fn.cursors 0 l.written)

use Rattle.std.proofs.Common.{◌≡◌, drop}
use Rattle.fault_order.specs.Order.{earlier_of, first_of}
use Rattle.source_outline.specs.Marked.{marked_from}
use Rattle.source_outline.proofs.sketching.first_marked.Given as goal

-- the first so far and of those that are left
abbrev pub invariant-loop-number : goal.invariant-loop-number
invariant-loop-number l = earlier_of l.first (first_of (marked_from l.marks l.number (drop l.number l.followers))) ≡ first_of (marked_from l.marks 0 l.followers)

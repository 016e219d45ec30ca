use Rattle.std.proofs.Common.{◌≡◌, drop}
use Rattle.fault_order.specs.Order.{earlier_of, first_of, numbered}
use Rattle.alias_merge.specs.CircleFaults.{marked_fault}
use Rattle.alias_merge.proofs.circle_faults.first_marked.Given as goal

-- the first fault so far and that of the edges that are left come to that of all
abbrev pub invariant-loop-number : goal.invariant-loop-number
invariant-loop-number l = earlier_of l.first (first_of (numbered (marked_fault l.rule l.marks) l.number (drop l.number l.edges))) ≡ first_of (numbered (marked_fault l.rule l.marks) 0 l.edges)

use Rattle.std.proofs.Common.{◌≡◌, drop, length, None}
use Rattle.std.specs.Prelude.{replicate}
use Rattle.fault_order.specs.Order.{earlier_of, first_of}
use Rattle.alias_merge.specs.ChangesSteps.{faults_seen}
use Rattle.alias_merge.proofs.changes.first_change_fault.Given as goal

-- the first fault so far and that of the changes that are left come to that of all
abbrev pub invariant-loop-change : goal.invariant-loop-change
invariant-loop-change l =
    earlier_of l.first (first_of (faults_seen l.labels l.homes l.lists l.seen (drop l.change-index l.changes))) ≡ first_of (faults_seen l.labels l.homes l.lists (replicate (length l.labels) None) l.changes)

use Rattle.std.proofs.Common.{◌≡◌, take}
use Rattle.fault_order.specs.Order.{first_of}
use Rattle.loop_check.specs.Graphs.{faults_in}
use Rattle.loop_check.proofs.purity.first_fault.Given as goal

-- what there is so far
abbrev pub invariant-loop-body : goal.invariant-loop-body
invariant-loop-body l = l.first ≡ first_of (faults_in l.tree l.spread (take l.body-index l.bodies))

use Rattle.std.proofs.Common.{◌≡◌, take}
use Rattle.std.specs.List.{flat_map}
use Rattle.fault_order.specs.Order.{first_of}
use Rattle.loop_check.specs.Graphs.{fault_of}
use Rattle.loop_check.proofs.purity.acts_fault.Given as goal

-- what there is so far
abbrev pub invariant-loop-act : goal.invariant-loop-act
invariant-loop-act l = l.first ≡ first_of (flat_map (fault_of l.spread l.rule) (take l.act-index l.acts))

use Rattle.std.proofs.Common.{◌+◌, ◌-◌, length}
use Rattle.typed_tree.proofs.BaseWalks.{Leads}
use Rattle.typed_tree.proofs.bases.ends_below.Given as goal

abbrev pub invariant-loop-left : goal.invariant-loop-left
invariant-loop-left l = Leads l.comps (1 + (length l.comps - 1)) l.ends l.jumps l.left

abbrev pub decreases-loop-left : goal.decreases-loop-left
decreases-loop-left l = l.left

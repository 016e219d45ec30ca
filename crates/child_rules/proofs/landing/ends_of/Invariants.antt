use Rattle.std.proofs.Common.{◌+◌, ◌-◌, length}
use Rattle.child_rules.proofs.TakerWalks.{Leads}
use Rattle.child_rules.proofs.landing.ends_of.Given as goal

abbrev pub invariant-loop-left : goal.invariant-loop-left
invariant-loop-left l = Leads l.comps (1 + (length l.comps - 1)) l.ends l.jumps l.left

abbrev pub decreases-loop-left : goal.decreases-loop-left
decreases-loop-left l = l.left

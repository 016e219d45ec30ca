use Rattle.std.proofs.Common.{◌-◌}
use Rattle.dep_list.specs.Lists.{state}
use Rattle.dep_list.proofs.Grows.{Grows}
use Rattle.dep_list.proofs.lists.Lists.reserve.Given as goal

abbrev pub invariant-loop-self : goal.invariant-loop-self
invariant-loop-self l = Grows l.pairs (state l.initial.self) (state l.self)

abbrev pub decreases-loop-self : goal.decreases-loop-self
decreases-loop-self l = l.pairs - l.self.spare

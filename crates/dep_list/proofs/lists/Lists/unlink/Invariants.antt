use Rattle.dep_list.specs.Lists.{state}
use Rattle.dep_list.proofs.DropLemmas.{DropsSoFar}
use Rattle.dep_list.proofs.lists.Lists.unlink.Given as goal

abbrev pub invariant-loop-at : goal.invariant-loop-at
invariant-loop-at l = DropsSoFar l.side l.key (state l.initial.self) (state l.self)

abbrev pub decreases-loop-at : goal.decreases-loop-at
decreases-loop-at l = l.self.count

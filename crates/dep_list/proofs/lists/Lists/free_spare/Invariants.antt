use Rattle.std.proofs.Common.{length}
use Rattle.dep_list.specs.Lists.{state, IsSpare}
use Rattle.dep_list.proofs.lists.Lists.free_spare.Given as goal

abbrev pub invariant-loop-self : goal.invariant-loop-self
invariant-loop-self l = IsSpare (state l.self)

abbrev pub decreases-loop-self : goal.decreases-loop-self
decreases-loop-self l = length l.self.nodes.cells

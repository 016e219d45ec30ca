use Rattle.std.proofs.Common.{length}
use Rattle.dep_list.specs.Lists.{state, pairs_of}
use Rattle.dep_list.proofs.WalkLemmas.{IsAhead}
use Rattle.dep_list.proofs.lists.Lists.has.Given as goal

abbrev pub invariant-loop-next : goal.invariant-loop-next
invariant-loop-next l = IsAhead l.reader l.point (pairs_of (state l.self)) l.points l.readers

abbrev pub decreases-loop-next : goal.decreases-loop-next
decreases-loop-next l = length l.points

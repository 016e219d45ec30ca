use Rattle.dep_list.specs.Lists.{state}
use Rattle.dep_list.proofs.SeenLemmas.{ClearsSoFar}
use Rattle.dep_list.proofs.lists.Lists.clear.Given as goal

abbrev pub invariant-loop-reader : goal.invariant-loop-reader
invariant-loop-reader l = ClearsSoFar l.reader (state l.initial.self) (state l.self)

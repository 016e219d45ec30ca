use Rattle.type_resolver.specs.Walking.{Walked}
use Rattle.type_resolver.proofs.elements.judge_elements.Given as goal

-- what is told of the elements so far, and the names in each
abbrev pub invariant-loop-e : goal.invariant-loop-e
invariant-loop-e l = Walked l.names l.component l.written l.e l.seen l.known

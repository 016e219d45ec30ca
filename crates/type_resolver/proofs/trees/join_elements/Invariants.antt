use Rattle.std.proofs.Common.{◌≡◌, ◌++◌, reverse, length}
use Rattle.type_resolver.specs.Resolves.{with_elements}
use Rattle.type_resolver.proofs.trees.join_elements.Given as goal

-- what is made so far, and what comes of those that are left
abbrev pub invariant-loop-outline : goal.invariant-loop-outline
invariant-loop-outline l = l.made ++ with_elements (reverse l.comps) (reverse l.bodies) ≡ with_elements (reverse l.fn.comps) (reverse l.fn.bodies)

abbrev pub decreases-loop-outline : goal.decreases-loop-outline
decreases-loop-outline l = length l.comps

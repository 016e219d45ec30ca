use Rattle.std.proofs.Common.{◌≡◌, ◌++◌, reverse, length}
use Rattle.type_resolver.specs.Resolves.{with_bodies}
use Rattle.type_resolver.proofs.trees.join_bodies.Given as goal

-- what is made so far, and what comes of those that are left
abbrev pub invariant-loop-outline : goal.invariant-loop-outline
invariant-loop-outline l = l.made ++ with_bodies (reverse l.globals) (reverse l.bodies) ≡ with_bodies (reverse l.fn.globals) (reverse l.fn.bodies)

abbrev pub decreases-loop-outline : goal.decreases-loop-outline
decreases-loop-outline l = length l.globals

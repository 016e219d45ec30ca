use Rattle.std.proofs.Common.{◌≡◌, ◌-◌, ◌++◌, Some}
use Rattle.expanded_tree.specs.Places.{layers_within}
use Rattle.expanded_tree.proofs.places.layers.Given as goal

abbrev pub invariant-loop : goal.invariant-loop
invariant-loop l = layers_within l.end l.bodies l.places (Some l.fn.spot) ≡ l.found ++ layers_within (l.end - l.counter) l.bodies l.places l.next

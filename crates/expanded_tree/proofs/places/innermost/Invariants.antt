use Rattle.std.proofs.Common.{◌≡◌, ◌-◌, Some}
use Rattle.expanded_tree.specs.Places.{last_or, layers_within}
use Rattle.expanded_tree.proofs.places.innermost.Given as goal

abbrev pub invariant-loop : goal.invariant-loop
invariant-loop l = last_or l.fn.spot (layers_within l.end l.bodies l.places (Some l.fn.spot)) ≡ last_or l.last (layers_within (l.end - l.counter) l.bodies l.places l.next)

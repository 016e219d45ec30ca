use Rattle.std.proofs.Common.{◌≡◌, ◌-◌, Some}
use Rattle.expanded_tree.specs.Places.{with_owner_within}
use Rattle.inliner.proofs.owning.own_layers.Given as goal

abbrev pub invariant-loop : goal.invariant-loop
invariant-loop l = with_owner_within l.end l.bodies l.owner (Some l.fn.spot) l.initial.places ≡ with_owner_within (l.end - l.counter) l.bodies l.owner l.next l.places

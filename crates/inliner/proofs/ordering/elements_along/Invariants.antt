use Rattle.std.proofs.Common.{◌≡◌, ◌-◌, [], ◌∷◌}
use Rattle.std.specs.Prelude.{reverse}
use Rattle.expanded_tree.specs.Order.{at_root, in_order}
use Rattle.inliner.proofs.ordering.elements_along.Given as goal

abbrev pub invariant-loop : goal.invariant-loop
invariant-loop l = in_order (l.steps - l.counter) l.ways.comps.now l.ways.bodies.now l.ways.places.now l.elements (reverse l.stack)
    ≡ in_order l.steps l.ways.comps.now l.ways.bodies.now l.ways.places.now [] (at_root ∷ [])

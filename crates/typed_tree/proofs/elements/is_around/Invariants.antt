use Rattle.std.proofs.Common.{◌≡◌, ◌-◌, Some}
use Rattle.typed_tree.specs.Elements.{is_among, outwards_within}
use Rattle.typed_tree.proofs.elements.is_around.Given as goal

abbrev pub invariant-loop : goal.invariant-loop
invariant-loop l = is_among (outwards_within l.end l.elements (Some l.fn.inner)) l.outer ≡ is_among (outwards_within (l.end - l.counter) l.elements l.around) l.outer

use Rattle.std.proofs.Common.{◌≡◌, drop}
use Rattle.expanded_tree.specs.Trees.{with_owners}
use Rattle.inliner.proofs.owning.own_all.Given as goal

abbrev pub invariant-loop-number : goal.invariant-loop-number
invariant-loop-number l = with_owners l.bodies l.number (drop l.number l.elements) l.places ≡ with_owners l.bodies 0 l.elements l.initial.places

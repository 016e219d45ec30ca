use Rattle.std.proofs.Common.{◌≡◌, take}
use Rattle.std.specs.Prelude.{map}
use Rattle.expanded_tree.specs.Order.{entering}
use Rattle.inliner.proofs.ordering.entering.Given as goal

abbrev pub invariant-loop-element : goal.invariant-loop-element
invariant-loop-element l = l.tasks ≡ map (entering l.body l.around) (take l.element-index l.children)

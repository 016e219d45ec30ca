use Rattle.std.proofs.Common.{◌≡◌}
use Rattle.expanded_tree.specs.Components.{each_below}
use Rattle.expanded_tree.specs.Sizes.{height}
use Rattle.inliner.proofs.faults.heights_of.Given as goal

abbrev pub invariant-loop-component : goal.invariant-loop-component
invariant-loop-component l = l.heights ≡ each_below (height l.comps) l.component

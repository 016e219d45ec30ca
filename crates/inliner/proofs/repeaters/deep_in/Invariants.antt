use Rattle.std.proofs.Common.{◌≡◌}
use Rattle.expanded_tree.specs.Components.{each_below}
use Rattle.inliner.specs.Extents.{deep_from, extent_at}
use Rattle.inliner.proofs.repeaters.deep_in.Given as goal

abbrev pub invariant-loop-around : goal.invariant-loop-around
invariant-loop-around l = l.deep ≡ each_below (deep_from (extent_at l.table) l.elements) l.around

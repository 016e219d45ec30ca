use Rattle.std.proofs.Common.{◌≡◌, ◌+◌, ◌≤◌, drop, suc}
use Rattle.std.specs.Prelude.{min, sum_by}
use Rattle.expanded_tree.specs.Sizes.{most_elements}
use Rattle.inliner.specs.Extents.{extent_at, sized_in}
use Rattle.inliner.proofs.measuring.total_size.Given as goal

abbrev pub invariant-loop-element : goal.invariant-loop-element
invariant-loop-element l = record {
  sum : min (suc most_elements) (l.total + sum_by (sized_in (extent_at l.table)) (drop l.element-index l.elements)) ≡ min (suc most_elements) (sum_by (sized_in (extent_at l.table)) l.elements);
  few : l.total ≤ suc most_elements;
}

use Rattle.std.proofs.Common.{◌≡◌, drop}
use Rattle.std.specs.List.{list_all}
use Rattle.inliner.specs.Extents.{extent_at, whole_in}
use Rattle.inliner.proofs.measuring.all_whole.Given as goal

abbrev pub invariant-loop-element : goal.invariant-loop-element
invariant-loop-element l = list_all (whole_in (extent_at l.table)) (drop l.element-index l.elements) ≡ list_all (whole_in (extent_at l.table)) l.elements

use Rattle.inliner.specs.Extents.{extent_at}
use Rattle.inliner.proofs.Sizing.{AreMeasured}
use Rattle.inliner.proofs.measuring.deeper.Given as goal

abbrev pub invariant-loop-comp : goal.invariant-loop-comp
invariant-loop-comp l = AreMeasured l.comps (extent_at l.table) l.comp-index l.made

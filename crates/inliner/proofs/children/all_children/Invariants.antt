use Rattle.inliner.proofs.Rows.{AreTablesOf}
use Rattle.inliner.proofs.children.all_children.Given as goal

abbrev pub invariant-loop-comp : goal.invariant-loop-comp
invariant-loop-comp l = AreTablesOf l.comps l.comp-index l.tables

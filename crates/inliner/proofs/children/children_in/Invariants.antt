use Rattle.inliner.proofs.Rows.{AreRowsOf}
use Rattle.inliner.proofs.children.children_in.Given as goal

abbrev pub invariant-loop-number : goal.invariant-loop-number
invariant-loop-number l = AreRowsOf l.elements l.number l.rows.items

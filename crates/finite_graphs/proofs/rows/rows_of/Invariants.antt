use Rattle.finite_graphs.specs.Rows.{AreRows}
use Rattle.finite_graphs.proofs.RowLemmas.{drawn_so_far}
use Rattle.finite_graphs.proofs.rows.rows_of.Given as goal

-- the rows have the edges so far
abbrev pub invariant-loop-edge : goal.invariant-loop-edge
invariant-loop-edge l = AreRows (drawn_so_far l.graph.nodes l.edge-items l.edge-index) l.rows.items

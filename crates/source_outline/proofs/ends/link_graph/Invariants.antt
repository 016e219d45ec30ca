use Rattle.std.proofs.Common.{◌≡◌, ◌++◌, drop, length}
use Rattle.finite_graphs.specs.Graphs.{Drawn}
use Rattle.source_outline.specs.Ends.{edges_from, link_edges}
use Rattle.source_outline.proofs.ends.link_graph.Given as goal

-- the edges so far and those that are left
abbrev pub invariant-loop-number : goal.invariant-loop-number
invariant-loop-number l = (l.graph.nodes ≡ length l.nexts) × (l.graph.edges ++ edges_from (length l.nexts) l.number (drop l.number l.nexts) ≡ link_edges l.nexts)

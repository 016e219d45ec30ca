use Rattle.std.proofs.Common.{take}
use Rattle.finite_graphs.proofs.Marking.{AreMarked}
use Rattle.finite_graphs.proofs.circles.find_circles.Given as goal

-- what the edges so far tell is marked
abbrev pub invariant-loop-edge : goal.invariant-loop-edge
invariant-loop-edge l = AreMarked l.labels l.graph.nodes (take l.edge-index l.edge-items) l.nodes l.edges

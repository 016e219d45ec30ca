use Rattle.std.proofs.Common.{◌≡◌, ◌++◌, drop}
use Rattle.std.specs.Prelude.{map}
use Rattle.alias_merge.specs.CircleFaults.{edge_in}
use Rattle.alias_merge.proofs.circle_faults.drawn.Given as goal

-- with the edges that are left the drawn ones become all
abbrev pub invariant-loop-edge : goal.invariant-loop-edge
invariant-loop-edge l = record {
  nodes : l.graph.nodes ≡ l.nodes;
  edges : l.graph.edges ++ map edge_in (drop l.edge-index l.edges) ≡ map edge_in l.edges;
}

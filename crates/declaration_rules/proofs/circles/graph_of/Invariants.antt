use Rattle.std.proofs.Common.{◌≡◌, map, take}
use Rattle.declaration_rules.specs.Circles.{edge_of}
use Rattle.declaration_rules.proofs.circles.graph_of.Given as goal

-- the uses so far are drawn
abbrev pub invariant-loop-one : goal.invariant-loop-one
invariant-loop-one l = record {
  nodes : l.graph.nodes ≡ l.nodes;
  edges : l.graph.edges ≡ map edge_of (take l.one-index l.usages);
}

use Rattle.std.proofs.Common.{◌≡◌, take}
use Rattle.alias_merge.specs.Labels.{joined}
use Rattle.alias_merge.proofs.labels.drawn_both_ways.Given as goal

-- the links so far are drawn
abbrev pub invariant-loop-link : goal.invariant-loop-link
invariant-loop-link l = record {
  nodes : l.graph.nodes ≡ l.members;
  edges : l.graph.edges ≡ joined (take l.link-index l.links);
}

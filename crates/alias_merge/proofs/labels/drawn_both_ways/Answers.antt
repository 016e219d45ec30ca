use Rattle.std.proofs.Common.{◌≡◌, ℕ, List, [], ap, ◌∙◌}
use Rattle.finite_graphs.specs.declared.edge.Edge.{Edge}
use Rattle.finite_graphs.specs.Graphs.{Drawn}
use Rattle.alias_merge.specs.Labels.{both_ways, joined}
use Rattle.alias_merge.proofs.CircleMarks.{within_from, within_to}
use Rattle.alias_merge.proofs.Listing.{flat_end, flat_turn}
use Rattle.alias_merge.proofs.Labelling.{nothing_before}
use Rattle.alias_merge.proofs.labels.drawn_both_ways.Goals as goal

pub loop-link-init : goal.loop-link-init
loop-link-init c = record {
  nodes = ap (λ (g : Drawn). g.nodes) c.new-graph.ensures;
  edges = ap (λ (g : Drawn). g.edges) c.new-graph.ensures;
}

pub add_both_ways-requires-clause-from : goal.add_both_ways-requires-clause-from
add_both_ways-requires-clause-from c =
    within_from c.args.links.now c.loop-link.link-index _ c.args.members c.loop-link.graph.nodes c.loop-link-test.true c.requires c.loop-link.invariant.nodes

pub add_both_ways-requires-clause-to : goal.add_both_ways-requires-clause-to
add_both_ways-requires-clause-to c =
    within_to c.args.links.now c.loop-link.link-index _ c.args.members c.loop-link.graph.nodes c.loop-link-test.true c.requires c.loop-link.invariant.nodes

pub loop-link-preserved : goal.loop-link-preserved
loop-link-preserved c = record {
  nodes = ap (λ (g : Drawn). g.nodes) c.in_ok-add_both_ways.ensures ∙ c.loop-link.invariant.nodes;
  edges = flat_turn both_ways c.args.links.now c.loop-link.link-index _ [] c.loop-link.graph.edges c.add_both_ways.new.graph.edges c.loop-link-test.true (nothing_before c.loop-link.invariant.edges)
      (ap (λ (g : Drawn). g.edges) c.in_ok-add_both_ways.ensures);
}

abbrev drawn : ℕ → List Edge → Drawn
drawn n es = record { nodes = n; edges = es }

drawn_same : (g : Drawn) (n : ℕ) (es : List Edge) → g.nodes ≡ n → g.edges ≡ es → g ≡ drawn n es
drawn_same g n es a b = ap (λ x. drawn x g.edges) a ∙ ap (drawn n) b

pub returns : goal.returns
returns c =
    drawn_same c.loop-link.graph c.args.members (joined c.args.links.now) c.loop-link.invariant.nodes
    (flat_end both_ways c.args.links.now c.loop-link.link-index [] c.loop-link.graph.edges c.loop-link-test.false c.loop-link.invariant.edges)

use Rattle.std.proofs.Common.{◌≡◌, ◌++◌, ℕ, List, ap, ◌∙◌, refl}
use Rattle.std.specs.Prelude.{map}
use Rattle.finite_graphs.specs.declared.edge.Edge.{Edge}
use Rattle.finite_graphs.specs.Graphs.{Drawn}
use Rattle.alias_merge.specs.CircleFaults.{edge_in}
use Rattle.alias_merge.proofs.CircleMarks.{within_from, within_to}
use Rattle.alias_merge.proofs.Passes.{behind_end, mapped_turn}
use Rattle.alias_merge.proofs.circle_faults.drawn.Goals as goal

pub loop-edge-init : goal.loop-edge-init
loop-edge-init c = record {
  nodes = ap (λ (g : Drawn). g.nodes) c.new-graph.ensures;
  edges = ap (λ (g : Drawn). g.edges ++ map edge_in c.args.edges.now) c.new-graph.ensures;
}

pub push-requires-clause-from : goal.push-requires-clause-from
push-requires-clause-from c =
    within_from c.args.edges.now c.loop-edge.edge-index _ c.args.nodes c.loop-edge.graph.nodes c.loop-edge-test.true c.requires c.loop-edge.invariant.nodes

pub push-requires-clause-to : goal.push-requires-clause-to
push-requires-clause-to c =
    within_to c.args.edges.now c.loop-edge.edge-index _ c.args.nodes c.loop-edge.graph.nodes c.loop-edge-test.true c.requires c.loop-edge.invariant.nodes

pub loop-edge-preserved : goal.loop-edge-preserved
loop-edge-preserved c = record {
  nodes = ap (λ (g : Drawn). g.nodes) c.in_ok-push.ensures.ok ∙ c.loop-edge.invariant.nodes;
  edges = mapped_turn edge_in c.loop-edge.graph.edges c.push.new.self.edges (map edge_in c.args.edges.now) c.args.edges.now c.loop-edge.edge-index _ c.loop-edge-test.true c.loop-edge.invariant.edges
      (ap (λ (g : Drawn). g.edges) c.in_ok-push.ensures.ok);
}

abbrev drawn : ℕ → List Edge → Drawn
drawn n es = record { nodes = n; edges = es }

drawn_same : (g : Drawn) (n : ℕ) (es : List Edge) → g.nodes ≡ n → g.edges ≡ es → g ≡ drawn n es
drawn_same g n es a b = ap (λ x. drawn x g.edges) a ∙ ap (drawn n) b

pub returns : goal.returns
returns c =
    drawn_same c.loop-edge.graph c.args.nodes (map edge_in c.args.edges.now) c.loop-edge.invariant.nodes
    (behind_end (map edge_in) c.loop-edge.graph.edges (map edge_in c.args.edges.now) c.args.edges.now c.loop-edge.edge-index refl c.loop-edge-test.false c.loop-edge.invariant.edges)

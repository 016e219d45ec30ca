use Rattle.std.proofs.Common.{◌≡◌, ◌++◌, ℕ, List, ap, ◌∙◌, arith, refl}
use Rattle.std.specs.Prelude.{map}
use Rattle.finite_graphs.specs.declared.edge.Edge.{Edge}
use Rattle.finite_graphs.specs.Graphs.{Drawn}
use Rattle.finite_graphs.proofs.RowLemmas.{read_within}
use Rattle.alias_merge.specs.ChoosingSteps.{turn}
use Rattle.alias_merge.proofs.Passes.{behind_end, mapped_turn}
use Rattle.alias_merge.proofs.choosing.turned.Goals as goal

abbrev drawn : ℕ → List Edge → Drawn
drawn n es = record { nodes = n; edges = es }

pub loop-link-init : goal.loop-link-init
loop-link-init c = record {
  nodes = ap (λ (g : Drawn). g.nodes) c.new-turned.ensures ∙ c.nodes.ensures;
  edges = ap (λ (g : Drawn). g.edges ++ map turn c.edges-link-items.result.now) c.new-turned.ensures ∙ ap (map turn) c.edges-link-items.ensures.all;
}

pub push-requires-clause-from : goal.push-requires-clause-from
push-requires-clause-from c =
    let l = read_within c.edges-link-items.result.now c.loop-link.link-index (record { from = 0; to = 0 }) c.loop-link-test.true c.edges-link-items.ensures.all c.edges-link-items.ensures.within in
    let n = c.loop-link.invariant.nodes in omega (arith, l.1, n)

pub push-requires-clause-to : goal.push-requires-clause-to
push-requires-clause-to c =
    let l = read_within c.edges-link-items.result.now c.loop-link.link-index (record { from = 0; to = 0 }) c.loop-link-test.true c.edges-link-items.ensures.all c.edges-link-items.ensures.within in
    let n = c.loop-link.invariant.nodes in omega (arith, l.0, n)

pub loop-link-preserved : goal.loop-link-preserved
loop-link-preserved c = record {
  nodes = ap (λ (g : Drawn). g.nodes) c.in_ok-push.ensures.ok ∙ c.loop-link.invariant.nodes;
  edges = mapped_turn turn c.loop-link.turned.edges c.push.new.self.edges (map turn c.args.links.now.edges) c.edges-link-items.result.now c.loop-link.link-index _ c.loop-link-test.true c.loop-link.invariant.edges
      (ap (λ (g : Drawn). g.edges) c.in_ok-push.ensures.ok);
}

drawn_same : (g : Drawn) (n : ℕ) (es : List Edge) → g.nodes ≡ n → g.edges ≡ es → g ≡ drawn n es
drawn_same g n es a b = ap (λ x. drawn x g.edges) a ∙ ap (drawn n) b

pub returns-clause-turned : goal.returns-clause-turned
returns-clause-turned c =
    drawn_same c.loop-link.turned c.args.links.now.nodes (map turn c.args.links.now.edges) c.loop-link.invariant.nodes
    (behind_end (map turn) c.loop-link.turned.edges (map turn c.args.links.now.edges) c.edges-link-items.result.now c.loop-link.link-index refl c.loop-link-test.false c.loop-link.invariant.edges)

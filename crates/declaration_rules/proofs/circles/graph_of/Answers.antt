use Rattle.std.proofs.Common.{◌∙◌, [], ap, get_or}
use Rattle.declaration_rules.specs.Circles.{edge_of}
use Rattle.declaration_rules.proofs.Circling.{below-from, below-to, get_or-itself, no_usage}
use Rattle.declaration_rules.proofs.Gathering.{maps-all, maps-next}
use Rattle.declaration_rules.proofs.circles.graph_of.Goals as goal

pub push-requires-clause-from : goal.push-requires-clause-from
push-requires-clause-from c =
    below-from c.args.usages.now c.loop-one.one-index _ c.in_ok-nodes.nodes c.loop-one.graph.nodes c.loop-one-test.true c.in_ok-nodes.ensures c.loop-one.invariant.nodes

pub push-requires-clause-to : goal.push-requires-clause-to
push-requires-clause-to c =
    below-to c.args.usages.now c.loop-one.one-index _ c.in_ok-nodes.nodes c.loop-one.graph.nodes c.loop-one-test.true c.in_ok-nodes.ensures c.loop-one.invariant.nodes

pub loop-one-preserved : goal.loop-one-preserved
loop-one-preserved c =
    let held = c.loop-one.invariant in
    record {
      nodes = ap (λ graph. graph.nodes) c.in_ok-push.ensures.ok ∙ held.nodes;
      edges = maps-next edge_of [] c.loop-one.graph.edges c.push.new.self.edges c.args.usages.now c.loop-one.one-index (get_or c.args.usages.now c.loop-one.one-index no_usage) c.loop-one-test.true (get_or-itself c.args.usages.now c.loop-one.one-index no_usage c.loop-one-test.true) held.edges (ap (λ graph. graph.edges) c.in_ok-push.ensures.ok);
    }

pub returns : goal.returns
returns c = maps-all edge_of [] c.loop-one.graph.edges c.args.usages.now c.loop-one.one-index c.loop-one-test.false c.loop-one.invariant.edges

use Rattle.declaration_rules.proofs.Circling.{first_circle}
use Rattle.declaration_rules.proofs.circles.circle_fault.Goals as goal

pub returns : goal.returns
returns c =
    first_circle c.args.usages.now c.in_ok-graph.graph c.in_ok-circles.circles.nodes c.in_ok-circles.circles.edges c.as_slice.result.now c.first_marked-fault.result c.in_ok-graph.ensures c.in_ok-circles.ensures c.as_slice.ensures c.first_marked-fault.ensures

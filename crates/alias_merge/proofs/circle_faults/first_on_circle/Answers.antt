use Rattle.std.proofs.Common.{ap}
use Rattle.finite_graphs.specs.Graphs.{Drawn}
use Rattle.alias_merge.proofs.CircleMarks.{first_circle}
use Rattle.alias_merge.proofs.circle_faults.first_on_circle.Goals as goal

pub returns : goal.returns
returns c =
    first_circle c.args.rule c.args.edges.now c.in_ok-graph.graph c.in_ok-circles.circles.nodes c.in_ok-circles.circles.edges c.as_slice.result.now c.first_marked-fault.result
    (ap (λ (g : Drawn). g.edges) c.in_ok-graph.ensures) c.in_ok-circles.ensures c.as_slice.ensures c.first_marked-fault.ensures

use Rattle.std.proofs.Common.{rules}
use Rattle.finite_graphs.proofs.Drawing.{within_push}
use Rattle.finite_graphs.proofs.graph.Graph.push.Goals as goal

pub invariant_of-self-2 : goal.invariant_of-self-2
invariant_of-self-2 c =
    let n = c.self.view_is in
    rw c.in_ok-push.ensures.ok (within_push c.self.inside.edges c.args.from c.args.to c.self.invariant (search rules) (search rules))

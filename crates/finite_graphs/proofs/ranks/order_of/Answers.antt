use Rattle.std.proofs.Common.{get_or, arith}
use Rattle.finite_graphs.proofs.Lists.{at_here}
use Rattle.finite_graphs.proofs.Ranking.{nodes_done, nodes_init, nodes_more}
use Rattle.finite_graphs.proofs.ranks.order_of.Goals as goal

pub loop-node-init : goal.loop-node-init
loop-node-init c = nodes_init c.args.labels.now c.in_ok-order.order (c.in_ok-order.ensures)

pub set-requires : goal.set-requires
set-requires c =
    let small = c.requires.small c.loop-node.node _ (at_here c.args.labels.now c.loop-node.node 0 c.loop-node-test.true) in let n = c.loop-node.invariant.sized in omega (arith, small, n)

pub loop-node-preserved : goal.loop-node-preserved
loop-node-preserved c =
    let here = at_here c.args.labels.now c.loop-node.node 0 c.loop-node-test.true in
    let small = c.requires.small c.loop-node.node _ here in let n = c.loop-node.invariant.sized in
    rw c.set.ensures (nodes_more c.loop-node.node (get_or c.args.labels.now c.loop-node.node 0) c.requires.apart here (omega (arith, small, n)) c.loop-node.invariant)

pub returns : goal.returns
returns c = nodes_done c.loop-node.node c.loop-node-test.false c.loop-node.invariant

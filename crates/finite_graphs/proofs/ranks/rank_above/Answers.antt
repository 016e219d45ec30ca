use Rattle.std.proofs.Common.{get_or, arith}
use Rattle.finite_graphs.proofs.Lists.{at_here, at_in}
use Rattle.finite_graphs.proofs.Ranking.{above_all, above_more, above_none}
use Rattle.finite_graphs.proofs.ranks.rank_above.Goals as goal

pub loop-node-init : goal.loop-node-init
loop-node-init c = record { above = above_none c.args.ranks.now c.args.row.now; small = omega arith }

pub prove-unreachable-requires : goal.prove-unreachable-requires
prove-unreachable-requires c =
    let l = c.requires.within _ (at_in (at_here c.args.row.now c.loop-node.node-index 0 c.loop-node-test.true)) in let f = c.if-prove.true in omega (arith, l, f)

pub raised-above-requires : goal.raised-above-requires
raised-above-requires c =
    let b = get_or c.args.row.now c.loop-node.node-index 0 in
    let q = c.requires.small b _ (at_here c.args.ranks.now b 0 c.if-prove.false) in
    omega (arith, q)

pub loop-node-preserved : goal.loop-node-preserved
loop-node-preserved c =
    let b = get_or c.args.row.now c.loop-node.node-index 0 in
    let here = at_here c.args.ranks.now b 0 c.if-prove.false in
    let q = c.requires.small b _ here in
    let s = c.loop-node.invariant.small in
    record {
      above = rw c.raised-above.ensures (above_more c.args.ranks.now c.args.row.now c.loop-node.node-index b (get_or c.args.ranks.now b 0) c.loop-node.above c.loop-node-test.true
          (at_here c.args.row.now c.loop-node.node-index 0 c.loop-node-test.true) here c.loop-node.invariant.above);
      small = omega (arith, q, s, c.raised-above.ensures);
    }

pub returns : goal.returns
returns c = above_all c.args.ranks.now c.args.row.now c.loop-node.node-index c.loop-node.above c.loop-node-test.false c.loop-node.invariant.above

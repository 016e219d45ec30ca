use Rattle.std.proofs.Common.{ℕ, List, sym, subst, arith}
use Rattle.finite_graphs.specs.Rows.{RowsWithin}
use Rattle.finite_graphs.proofs.Lists.{at_some}
use Rattle.finite_graphs.proofs.Spreading.{as_many, spread_done, spread_init, spread_taken, spread_within}
use Rattle.finite_graphs.proofs.reached.reached_from.Goals as goal

pub loop-node-init : goal.loop-node-init
loop-node-init c =
    let n = as_many c.args.marks.now c.requires c.in_ok-rows.ensures.rows c.as_slice-rows.ensures.value in
    (0, spread_init c.args.marks.now c.in_ok-reached.reached (subst (λ (xs : List (List ℕ)). RowsWithin xs) (sym c.as_slice-rows.ensures.value) c.in_ok-rows.ensures.within) n c.in_ok-reached.ensures c.in_ok-waiting.ensures)

pub prove-unreachable-requires : goal.prove-unreachable-requires
prove-unreachable-requires c =
    let n = as_many c.args.marks.now c.requires c.in_ok-rows.ensures.rows c.as_slice-rows.ensures.value in
    let l = spread_within c.pop.new.self c.in-Some.node c.loop-node.invariant.1 n c.in-Some.ensures in let f = c.if-prove.true in omega (arith, l, f)

pub spread-requires-clause-within : goal.spread-requires-clause-within
spread-requires-clause-within c = λ a b st. let s = c.loop-node.invariant.1 in let l = s.within a b st in let n = s.sized in omega (arith, l, n)

pub loop-node-preserved : goal.loop-node-preserved
loop-node-preserved c =
    let row = at_some c.as_slice-rows.result.now c.in-Some.node c.if-prove.false in
    (c.in-Some.node, c.in_ok-spread.ensures.state c.args.marks.now row.item row.stands (spread_taken c.pop.new.self c.in-Some.node c.loop-node.invariant.1 c.in-Some.ensures row.item row.stands))

pub returns : goal.returns
returns c = spread_done c.as_slice-rows.result.now c.in_ok-rows.ensures.rows c.as_slice-rows.ensures.value c.requires c.in_default.ensures.0 c.loop-node.invariant.1

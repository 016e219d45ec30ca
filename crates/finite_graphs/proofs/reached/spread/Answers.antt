use Rattle.std.proofs.Common.{◌≡◌, ℕ, List, refl, sym, subst, ◌∙◌, arith}
use Rattle.finite_graphs.specs.Reached.{IsSpread}
use Rattle.finite_graphs.specs.Rows.{Steps}
use Rattle.finite_graphs.specs.Walks.{At}
use Rattle.finite_graphs.proofs.Lists.{at_here, at_in, at_read, at_same}
use Rattle.finite_graphs.proofs.Spreading.{count_spread, sized_spread, spread_end, spread_next}
use Rattle.finite_graphs.proofs.reached.spread.Goals as goal

pub loop-to-init : goal.loop-to-init
loop-to-init c = record { state = λ marks s. s; sized = refl; count = refl }

pub prove-unreachable-requires : goal.prove-unreachable-requires
prove-unreachable-requires c =
    let row = subst (λ (xs : List ℕ). At xs c.args.rows.now c.args.node) (sym c.as_slice-row.ensures) (at_read c.args.rows.now c.args.node c.index-rows-node.result c.requires.node c.index-rows-node.is) in
    let l = c.requires.within c.args.node _ (record { row = c.as_slice-row.result.now; stands = row; among = at_in (at_here c.as_slice-row.result.now c.loop-to.to-index 0 c.loop-to-test.true) }) in
    let n = c.loop-to.invariant.sized in let f = c.if-prove.true in let k = c.len.ensures in omega (arith, l, n, f, k)

pub loop-to-preserved : goal.loop-to-preserved
loop-to-preserved c = record {
  state = λ marks s. spread_next c.as_slice-row.result.now c.loop-to.to-index c.loop-to-test.true (c.loop-to.invariant.state marks s) c.in_ok-spread_to.ensures;
  sized = sized_spread c.in_ok-spread_to.ensures ∙ c.loop-to.invariant.sized;
  count = count_spread c.in_ok-spread_to.ensures ∙ c.loop-to.invariant.count;
}

pub returns-clause-state : goal.returns-clause-state
returns-clause-state c = λ marks row stands s.
    let here = subst (λ (xs : List ℕ). At xs c.args.rows.now c.args.node) (sym c.as_slice-row.ensures) (at_read c.args.rows.now c.args.node c.index-rows-node.result c.requires.node c.index-rows-node.is) in
    let same : row ≡ c.as_slice-row.result.now = at_same stands here in
    spread_end c.as_slice-row.result.now c.loop-to.to-index c.loop-to-test.false
    (c.loop-to.invariant.state marks (subst (λ (xs : List ℕ). IsSpread (Steps c.args.rows.now) marks c.args.reached.now c.args.waiting.now c.args.node xs) same s))

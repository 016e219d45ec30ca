use Rattle.std.proofs.Common.{◌+◌, ℕ, List, get_or, sym, ◌∙◌, subst, arith}
use Rattle.finite_graphs.specs.Ranks.{AreRanksBelow, IsAbove}
use Rattle.finite_graphs.specs.Walks.{At}
use Rattle.finite_graphs.proofs.Lists.{at_here, at_read}
use Rattle.finite_graphs.proofs.Ranking.{label_of_node, label_of_none, labels_apart, now_small, ranks_done, ranks_init, ranks_next, ranks_skip, row_within}
use Rattle.finite_graphs.proofs.ranks.ranks_along.Goals as goal
use Rattle.finite_graphs.proofs.ranks.ranks_along.Goals.{then-labels-node, else-labels-node}

pub loop-label-init : goal.loop-label-init
loop-label-init c = ranks_init c.in_ok-ranks.ranks c.requires.labels c.in_ok-ranks.ensures

pub prove-unreachable-requires : goal.prove-unreachable-requires
prove-unreachable-requires c = let l = c.requires.order.within c.loop-label.label _ (at_here c.args.order.now c.loop-label.label 0 c.loop-label-test.true) in let f = c.if-prove.true in omega (arith, l, f)

pub rank_above-rank-requires-clause-within : goal.rank_above-rank-requires-clause-within
rank_above-rank-requires-clause-within c =
    let node = get_or c.args.order.now c.loop-label.label 0 in
    let row = at_read c.args.rows.now node c.index-rows-node.result c.if-prove-2.false c.index-rows-node.is in
    row_within c.as_slice.result.now c.as_slice-then-labels-node.result.now node c.requires.within c.loop-label.invariant c.as_slice.ensures
    (subst (λ (xs : List ℕ). At xs c.args.rows.now node) (sym c.as_slice-then-labels-node.ensures) row)

pub rank_above-rank-requires-clause-small : goal.rank_above-rank-requires-clause-small
rank_above-rank-requires-clause-small c = now_small c.as_slice.result.now c.loop-label.invariant c.as_slice.ensures

pub set-requires : goal.set-requires
set-requires c = let l = c.if-prove-2.false in let n = c.loop-label.invariant.sized in omega (arith, l, n)

pub loop-label-preserved : goal.loop-label-preserved
loop-label-preserved c =
    let node = get_or c.args.order.now c.loop-label.label 0 in
    elim c.if-labels-node.branch [
      | then-labels-node w ↦
          let row = at_read c.args.rows.now node w.index-rows-node.result c.if-prove-2.false w.index-rows-node.is in
          let stands = subst (λ (xs : List ℕ). At xs c.args.rows.now node) (sym w.as_slice-then-labels-node.ensures) row in
          let is_label = label_of_node c.loop-label.label c.requires.order c.loop-label-test.true w.if-labels-node.true in
          let above = subst (λ (xs : List ℕ). IsAbove xs w.as_slice-then-labels-node.result.now w.rank_above-rank.result) w.as_slice.ensures w.rank_above-rank.ensures in
          subst (λ (xs : List ℕ). AreRanksBelow c.args.rows.now c.args.labels.now xs (c.loop-label.label + 1)) (sym (w.ranks-is ∙ w.set.ensures))
          (ranks_next c.requires.within c.requires.labels c.requires.falls is_label stands above c.loop-label.invariant (labels_apart c.requires.within c.requires.labels c.requires.falls))
      | else-labels-node w ↦
          subst (λ (xs : List ℕ). AreRanksBelow c.args.rows.now c.args.labels.now xs (c.loop-label.label + 1)) (sym w.ranks-is)
          (ranks_skip (label_of_none c.loop-label.label c.requires.order c.loop-label-test.true w.if-labels-node.false) c.loop-label.invariant)
    ]

pub returns : goal.returns
returns c = let n = c.requires.order.sized in let f = c.loop-label-test.false in ranks_done c.loop-label.label (omega (arith, n, f)) c.requires.labels c.loop-label.invariant

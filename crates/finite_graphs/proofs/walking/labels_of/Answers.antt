use Rattle.std.proofs.Common.{◌+◌, List, sym, subst}
use Rattle.finite_graphs.specs.declared.search.Search.{Search}
use Rattle.finite_graphs.specs.declared.search.Standing.{Standing}
use Rattle.finite_graphs.specs.declared.search.Standing.TheVariants.{New}
use Rattle.finite_graphs.specs.Walks.{At}
use Rattle.finite_graphs.proofs.Labels.{AllClosed, all_done, closed_before, closed_now, new_none}
use Rattle.finite_graphs.proofs.walking.labels_of.Goals as goal
use Rattle.finite_graphs.proofs.walking.labels_of.Goals.{then-is_new+in_ok-close_from, else-is_new}

pub loop-node-init : goal.loop-node-init
loop-node-init c = record { state = c.in_ok-search.ensures.state; whole = c.in_ok-search.ensures.whole; begun = new_none c.in_ok-search.search.places }

pub loop-node-preserved : goal.loop-node-preserved
loop-node-preserved c =
    elim c.if-is_new.branch [
      | then-is_new+in_ok-close_from w ↦
          subst (λ (s : Search). AllClosed c.args.rows.now s (c.loop-node.node + 1)) (sym w.search-is)
          (closed_now c.loop-node.invariant w.in_ok-close_from.ensures.state w.in_ok-close_from.ensures.whole w.in_ok-close_from.ensures.fewer w.in_ok-close_from.ensures.met)
      | else-is_new w ↦
          subst (λ (s : Search). AllClosed c.args.rows.now s (c.loop-node.node + 1)) (sym w.search-is)
          (closed_before c.loop-node.invariant (λ h.
          let t = c.is_new.ensures.1 (subst (λ (xs : List Standing). At New xs c.loop-node.node) (sym c.as_slice.ensures) h) in let f = w.if-is_new.false in absurd (cc)))
    ]

pub returns : goal.returns
returns c = all_done c.labels.result c.loop-node.invariant.state c.loop-node.invariant.whole c.loop-node.invariant.begun c.loop-node-test.false c.as_slice-2.ensures c.labels.ensures

use Rattle.std.proofs.Common.{arith}
use Rattle.layout_solve.proofs.Bounds.{size_within}
use Rattle.layout_solve.proofs.Totals.{summed_held, summed-more, summed_all, summed_wide}
use Rattle.layout_solve.proofs.Wide.{held_fits, kept-is, added-is}
use Rattle.layout_solve.proofs.levels.total.Goals as goal

pub overflow_add-sum : goal.overflow_add-sum
overflow_add-sum c =
    let is = size_within c.args.sizing _ (c.requires c.loop-item.item-index _ c.loop-item-test.true) in
    rw (added-is _ _ _ _ is c.from-sum.ensures c.size.ensures) (held_fits _ (summed_held _ _ _ _ _ c.loop-item.invariant (omega arith) is))

pub loop-item-preserved : goal.loop-item-preserved
loop-item-preserved c =
    let is = size_within c.args.sizing _ (c.requires c.loop-item.item-index _ c.loop-item-test.true) in
    let e = added-is _ _ _ _ is c.from-sum.ensures c.size.ensures in
    summed-more _ c.args.items.now c.loop-item.item-index _ _ _ c.loop-item.invariant c.loop-item-test.true is (kept-is _ _ e (summed_held _ _ _ _ _ c.loop-item.invariant (omega arith) is))

pub returns-clause-sum : goal.returns-clause-sum
returns-clause-sum c = summed_all _ _ _ _ c.loop-item.invariant c.loop-item-test.false

pub returns-clause-low : goal.returns-clause-low
returns-clause-low c = (summed_wide _ _ _ _ c.loop-item.invariant (omega arith)).low

pub returns-clause-high : goal.returns-clause-high
returns-clause-high c = (summed_wide _ _ _ _ c.loop-item.invariant (omega arith)).high

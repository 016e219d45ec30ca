use Rattle.std.proofs.Common.{map-id, ap, ◌∙◌, refl, arith}
use Rattle.layout_solve.specs.Sizes.{total}
use Rattle.layout_solve.proofs.Totals.{summed_held, summed-more, summed_all, summed_wide}
use Rattle.layout_solve.proofs.Wide.{held_fits, kept-is, added-is}
use Rattle.layout_solve.proofs.places.sum.Goals as goal

pub overflow_add-sum : goal.overflow_add-sum
overflow_add-sum c =
    let is = c.requires c.loop-size.size-index _ c.loop-size-test.true in
    rw (added-is _ _ _ _ is c.from-sum.ensures refl) (held_fits _ (summed_held _ _ _ _ _ c.loop-size.invariant (omega arith) is))

pub loop-size-preserved : goal.loop-size-preserved
loop-size-preserved c =
    let is = c.requires c.loop-size.size-index _ c.loop-size-test.true in
    let e = added-is _ _ _ _ is c.from-sum.ensures refl in
    summed-more _ c.args.sizes.now c.loop-size.size-index _ _ _ c.loop-size.invariant c.loop-size-test.true is (kept-is _ _ e (summed_held _ _ _ _ _ c.loop-size.invariant (omega arith) is))

pub returns-clause-sum : goal.returns-clause-sum
returns-clause-sum c = summed_all _ _ _ _ c.loop-size.invariant c.loop-size-test.false ∙ ap total (map-id c.args.sizes.now)

pub returns-clause-low : goal.returns-clause-low
returns-clause-low c = (summed_wide _ _ _ _ c.loop-size.invariant (omega arith)).low

pub returns-clause-high : goal.returns-clause-high
returns-clause-high c = (summed_wide _ _ _ _ c.loop-size.invariant (omega arith)).high

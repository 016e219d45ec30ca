use Rattle.std.proofs.Common.{ap, ◌∙◌, arith}
use Rattle.std.specs.Int.{w128}
use Rattle.std.proofs.lemmas.Int.{ints, clamps, to_z-of_z}
use Rattle.layout_solve.specs.Sizes.{shared}
use Rattle.layout_solve.proofs.Wide.{narrow_fits, left_fits}
use Rattle.layout_solve.proofs.Bounds.{size_at-is}
use Rattle.layout_solve.proofs.Sharing.{sharing-none, sharing-more, sharing_all, gift_within}
use Rattle.layout_solve.proofs.boxes.share.Goals as goal

pub loop-i-init : goal.loop-i-init
loop-i-init c = rw (to_z-of_z w128 c.args.rest c.ranges.rest) (sharing-none _ _ _ _ c.requires.rest c.requires.same_length)

pub overflow_add-out : goal.overflow_add-out
overflow_add-out c =
    let is = c.requires.items c.loop-i.i _ c.loop-i-test.true in
    let s = size_at-is c.args.sizing _ is in
    let g = c.gift-more.ensures in
    let light = gift_within c.args.sizing _ c.gift-more.result is g.some g.light in
    narrow_fits _ (omega (arith, ints, c.size.ensures, s.low, is.low, g.some, light)) (omega (arith, ints, c.size.ensures, s.high, is.high, g.some, light))

pub overflow_sub-left : goal.overflow_sub-left
overflow_sub-left c =
    let is = c.requires.items c.loop-i.i _ c.loop-i-test.true in
    let h = c.loop-i.invariant in
    let g = c.gift-more.ensures in
    let light = gift_within c.args.sizing _ c.gift-more.result is g.some g.light in
    left_fits c.args.rest _ c.ranges.rest
    (omega (arith, ints, clamps, c.from-left.ensures, g.value, g.some, light, h.some))
    (omega (arith, ints, c.from-left.ensures, g.some, light, h.high, to_z-of_z w128 c.args.rest c.ranges.rest))

pub loop-i-preserved : goal.loop-i-preserved
loop-i-preserved c =
    let is = c.requires.items c.loop-i.i _ c.loop-i-test.true in
    let s = size_at-is c.args.sizing _ is in
    let g = c.gift-more.ensures in
    let light = gift_within c.args.sizing _ c.gift-more.result is g.some g.light in
    sharing-more c.args.sizing c.args.items.now _ c.loop-i.out _ c.loop-i.i _ c.gift-more.result _ _ c.loop-i.invariant c.loop-i-test.true
    (record { value = g.value; some = g.some; light = g.light })
    (omega (arith, ints, c.size.ensures, s.low, s.high, is.low, is.high, g.some, light))
    (omega (arith, ints, c.from-left.ensures, g.some, light, c.loop-i.invariant.some))

pub returns : goal.returns
returns c = sharing_all _ _ _ _ _ _ c.loop-i.invariant c.loop-i-test.false ∙ ap (λ z. shared c.args.sizing z c.args.items.now) (to_z-of_z w128 c.args.rest c.ranges.rest)

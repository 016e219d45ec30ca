use Rattle.std.proofs.Common.{pos, to_z, of_z, w64, ap, ◌∙◌, length, arith}
use Rattle.std.proofs.lemmas.Int.{ints, to_z-of_z}
use Rattle.layout_solve.specs.Items.{IsWithinLimits}
use Rattle.layout_solve.specs.Places.{shift}
use Rattle.layout_solve.proofs.Wide.{narrow_fits}
use Rattle.layout_solve.proofs.Offsets.{placing-none, placing-more, placing_all, written-is}
use Rattle.layout_solve.proofs.places.place.Goals as goal

pub loop-i-init : goal.loop-i-init
loop-i-init c = placing-none _ _ _ _ _ c.requires.same_length

pub overflow_add-size : goal.overflow_add-size
overflow_add-size c =
    let s = c.requires.sizes c.loop-i.i (pos 0) c.loop-i-test.true in
    let g = c.requires.spacing in
    narrow_fits _ (omega (arith, ints, s.low, s.high, g.low, g.high)) (omega (arith, ints, s.low, s.high, g.low, g.high))

pub loop-i-preserved : goal.loop-i-preserved
loop-i-preserved c =
    let s = c.requires.sizes c.loop-i.i (pos 0) c.loop-i-test.true in
    let g : IsWithinLimits (to_z w64 (of_z w64 c.args.spacing)) = rw (to_z-of_z w64 c.args.spacing c.ranges.spacing) c.requires.spacing in
    let h = c.loop-i.invariant in
    let part = c.shift-part.ensures.shift ∙ ap (λ n. shift c.args.align (length c.args.sizes.now) n c.loop-i.i) c.room_left-left.ensures.left in
    placing-more c.args.align c.args.sizes.now _ _ c.loop-i.out _ c.loop-i.i _ _ c.loop-i.invariant c.loop-i-test.true s g
    (written-is _ c.loop-i.i _ _ _ h.low h.high (omega arith) c.shift-part.ensures.small c.saturated.ensures part)
    (omega (arith, ints, c.from-start.ensures, s.low, s.high, g.low, g.high, h.low, h.high))

pub returns : goal.returns
returns c = placing_all _ _ _ _ _ _ _ _ _ c.loop-i.invariant c.loop-i-test.false (to_z-of_z w64 c.args.room c.ranges.room) (to_z-of_z w64 c.args.spacing c.ranges.spacing)

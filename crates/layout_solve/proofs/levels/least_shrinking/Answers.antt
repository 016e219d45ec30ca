use Rattle.std.proofs.Common.{w64, arith}
use Rattle.std.proofs.lemmas.Int.{to_z-of_z}
use Rattle.layout_solve.proofs.Halving.{around-first, around-raised}
use Rattle.layout_solve.proofs.levels.least_shrinking.Goals as goal

pub loop-low-init : goal.loop-low-init
loop-low-init c = rw (to_z-of_z w64 c.args.room c.ranges.room) (around-first _ _ c.requires.items c.requires.room)

pub loop-low-preserved : goal.loop-low-preserved
loop-low-preserved c =
    let h = c.loop-low.invariant in
    around-raised c.args.items.now _ c.loop-low.low _ c.loop-low.high c.requires.items h (omega arith) c.if-fits.ensures

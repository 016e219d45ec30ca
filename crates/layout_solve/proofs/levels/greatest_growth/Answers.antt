use Rattle.std.proofs.Common.{w64, sym, arith}
use Rattle.std.proofs.lemmas.Int.{to_z-of_z}
use Rattle.layout_solve.proofs.Halving.{between-first, between-raised, between-lowered}
use Rattle.layout_solve.proofs.levels.greatest_growth.Goals as goal

pub loop-low-init : goal.loop-low-init
loop-low-init c = rw (to_z-of_z w64 c.args.room c.ranges.room) (between-first _ _ c.requires.items c.requires.room)

pub loop-low-preserved-then-fits : goal.loop-low-preserved-then-fits
loop-low-preserved-then-fits c =
    between-raised c.args.items.now _ c.loop-low.low _ c.loop-low.high c.loop-low.invariant (omega arith) (rw (sym c.requires.even) c.if-fits.ensures)

pub loop-low-preserved : goal.loop-low-preserved
loop-low-preserved c =
    let h = c.loop-low.invariant in
    between-lowered c.args.items.now _ c.loop-low.low _ c.loop-low.high c.requires.items h (omega arith) (omega arith) (rw (sym c.requires.even) c.if-fits.ensures)

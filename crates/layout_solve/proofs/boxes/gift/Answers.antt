use Rattle.std.proofs.Common.{arith}
use Rattle.std.proofs.lemmas.Int.{ints, clamps}
use Rattle.layout_solve.proofs.Bounds.{more_at-is}
use Rattle.layout_solve.proofs.boxes.gift.Goals as goal

pub returns-clause-light : goal.returns-clause-light
returns-clause-light c =
    let m = more_at-is c.args.sizing c.args.item.now c.requires.item in
    omega (arith, ints, clamps, m.some, m.fits, c.more.ensures, c.from.ensures, c.min.ensures.value)

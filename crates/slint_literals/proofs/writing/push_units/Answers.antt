use Rattle.std.proofs.Common.{arith, lit<}
use Rattle.std.proofs.Math.Nat.{one-le-pow}
use Rattle.slint_literals.proofs.writing.push_units.Goals as goal

pub nonzero_div-n : goal.nonzero_div-n
nonzero_div-n c = omega (arith, c.pow.ensures, one-le-pow c.args.places 10 (lit< tt))

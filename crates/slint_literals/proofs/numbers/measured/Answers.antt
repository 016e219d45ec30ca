use Rattle.std.proofs.Common.{arith}
use Rattle.slint_literals.proofs.Worths.{power_fits, divisor_fits, factor_fits, divisor_some}
use Rattle.slint_literals.proofs.numbers.measured.Goals as goal

pub pow-requires : goal.pow-requires
pow-requires c = omega (arith, power_fits c.args.places c.requires.short)

pub overflow_mul-divisor : goal.overflow_mul-divisor
overflow_mul-divisor c = let room = divisor_fits c.from-2.result c.pow.result c.args.places c.pow.ensures (omega arith) c.requires.short in omega arith

pub overflow_add-exact : goal.overflow_add-exact
overflow_add-exact c =
    let room = divisor_fits c.from-2.result c.pow.result c.args.places c.pow.ensures (omega arith) c.requires.short in
    let size = factor_fits c.args.digits c.from.result c.requires.few (omega arith) in
    omega arith

pub overflow_mul-divisor-2 : goal.overflow_mul-divisor-2
overflow_mul-divisor-2 c = let room = divisor_fits c.from-2.result c.pow.result c.args.places c.pow.ensures (omega arith) c.requires.short in omega arith

pub nonzero_div-exact : goal.nonzero_div-exact
nonzero_div-exact c = let some = divisor_some c.from-2.result c.pow.result c.args.places c.pow.ensures (omega arith) in omega arith

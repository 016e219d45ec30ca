use Rattle.std.proofs.Common.{arith, refl}
use Rattle.slint_literals.proofs.Worths.{wrote_none, wrote_more, wrote_fits}
use Rattle.slint_literals.proofs.numbers.appended.Goals as goal

pub loop-digit-init : goal.loop-digit-init
loop-digit-init c = wrote_none c.args.before c.args.digits.now

pub loop-digit-preserved : goal.loop-digit-preserved
loop-digit-preserved c = wrote_more c.args.before c.args.digits.now c.loop-digit.digit-index c.loop-digit.value _ _ c.requires.digits c.loop-digit-test.true refl c.loop-digit.invariant (omega arith)

pub overflow_mul-value : goal.overflow_mul-value
overflow_mul-value c = let room = wrote_fits c.args.before c.args.digits.now c.loop-digit.digit-index c.loop-digit.value c.loop-digit-test.true c.requires.room c.loop-digit.invariant in omega arith

pub overflow_add-value : goal.overflow_add-value
overflow_add-value c = let room = wrote_fits c.args.before c.args.digits.now c.loop-digit.digit-index c.loop-digit.value c.loop-digit-test.true c.requires.room c.loop-digit.invariant in omega arith

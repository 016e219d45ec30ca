use Rattle.std.proofs.Common.{◌+◌, ◌*◌, ap, get_or, arith}
use Rattle.text_measure.specs.Grammar.{is_hex}
use Rattle.text_measure.proofs.Spelled.{spelled-none, spelled-more, spelled_short, spelled_all, hex_range, passed}
use Rattle.text_measure.proofs.words.hexadecimal.Goals as goal

pub loop-digit-init : goal.loop-digit-init
loop-digit-init c = spelled-none _ _

pub overflow_mul-number : goal.overflow_mul-number
overflow_mul-number c =
    let s = spelled_short _ _ _ _ c.loop-digit.invariant (omega (arith, c.requires.short, c.loop-digit-test.true)) in omega (arith, s)

pub overflow_add-number : goal.overflow_add-number
overflow_add-number c =
    let s = spelled_short _ _ _ _ c.loop-digit.invariant (omega (arith, c.requires.short, c.loop-digit-test.true)) in
    let d = hex_range (get_or c.args.digits.now c.loop-digit.digit-index 0) (passed is_hex c.args.digits.now c.loop-digit.digit-index c.requires.digits c.loop-digit-test.true) in
    omega (arith, s, d, c.hex_value.ensures)

pub loop-digit-preserved : goal.loop-digit-preserved
loop-digit-preserved c =
    let d = hex_range (get_or c.args.digits.now c.loop-digit.digit-index 0) (passed is_hex c.args.digits.now c.loop-digit.digit-index c.requires.digits c.loop-digit-test.true) in
    spelled-more _ _ _ c.loop-digit.number _ 16 c.hex_value.result c.loop-digit.invariant c.loop-digit-test.true (omega arith) (omega (arith, d, c.hex_value.ensures)) (ap (λ n. 16 * c.loop-digit.number + n) c.hex_value.ensures) (omega arith)

pub returns : goal.returns
returns c = spelled_all _ _ _ _ c.loop-digit.invariant c.loop-digit-test.false

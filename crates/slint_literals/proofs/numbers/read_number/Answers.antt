use Rattle.std.proofs.Common.{sym}
use Rattle.std.specs.Char.{is_ascii_digit}
use Rattle.slint_literals.proofs.Hex.{all_front}
use Rattle.slint_literals.proofs.Worths.{behind_digits, number_is}
use Rattle.slint_literals.proofs.numbers.read_number.Goals as goal

pub worth-requires-clause-whole : goal.worth-requires-clause-whole
worth-requires-clause-whole c = rw c.split_digits.ensures.digits (all_front is_ascii_digit c.args.text.now)

pub worth-requires-clause-fraction : goal.worth-requires-clause-fraction
worth-requires-clause-fraction c = rw c.behind_point-fraction.ensures (behind_digits c.split_digits.result.1.now)

pub returns : goal.returns
returns c =
    number_is c.args.text.now c.split_digits.result.0.now c.split_digits.result.1.now c.behind_point-fraction.result.now c.split_at.result.1.now c.pointed_length.result c.worth.result
    c.split_digits.ensures.digits c.split_digits.ensures.behind c.behind_point-fraction.ensures c.pointed_length.ensures c.split_at.ensures.back (sym c.if-is_empty.ensures) (sym c.if-not-is_unit.ensures) c.worth.ensures

use Rattle.std.proofs.Common.{length, ap, subst, arith}
use Rattle.slint_literals.specs.Numbers.{pointed, IsLongestNumber}
use Rattle.slint_literals.proofs.NumberTexts.{longest_number, count_is}
use Rattle.slint_literals.proofs.Worths.{pointed_within}
use Rattle.slint_literals.proofs.numbers.number_length.Goals as goal

pub split_at-requires : goal.split_at-requires
split_at-requires c = omega (arith, pointed_within c.split_digits.result.1.now, ap (λ x. length (pointed x)) c.behind_point.ensures)

pub overflow_add-result-2 : goal.overflow_add-result-2
overflow_add-result-2 c =
    let same = count_is c.args.text.now c.split_digits.result.0.now c.split_digits.result.1.now c.behind_point.result.now c.split_at.result.1.now c.pointed_length-point.result c.unit_length.result
    c.split_digits.ensures.digits c.split_digits.ensures.behind c.behind_point.ensures c.pointed_length-point.ensures c.split_at.ensures.back c.unit_length.ensures in
    omega (arith, (longest_number c.args.text.now c.requires).within)

pub returns : goal.returns
returns c =
    let same = count_is c.args.text.now c.split_digits.result.0.now c.split_digits.result.1.now c.behind_point.result.now c.split_at.result.1.now c.pointed_length-point.result c.unit_length.result
    c.split_digits.ensures.digits c.split_digits.ensures.behind c.behind_point.ensures c.pointed_length-point.ensures c.split_at.ensures.back c.unit_length.ensures in
    subst (IsLongestNumber c.args.text.now) same (longest_number c.args.text.now c.requires)

use Rattle.std.proofs.Common.{length, arith, ◌∙◌}
use Rattle.slint_literals.proofs.Worths.{front_room, back_room, worth_is}
use Rattle.slint_literals.proofs.numbers.worth.Goals as goal

pub appended-requires-clause-room : goal.appended-requires-clause-room
appended-requires-clause-room c = front_room (length c.args.whole.now) (omega arith)

pub appended-digits-requires-clause-room : goal.appended-digits-requires-clause-room
appended-digits-requires-clause-room c = back_room c.appended.result (length c.args.whole.now) (length c.args.fraction.now) c.appended.ensures.below (omega arith)

pub digits_worth-requires-clause-few : goal.digits_worth-requires-clause-few
digits_worth-requires-clause-few c = let room = back_room c.appended.result (length c.args.whole.now) (length c.args.fraction.now) c.appended.ensures.below (omega arith) in omega (arith, c.appended-digits.ensures.below)

pub returns : goal.returns
returns c = c.digits_worth.ensures ∙ worth_is c.args.whole.now c.args.fraction.now c.args.unit.now c.appended.result c.appended-digits.result c.appended.ensures.value c.appended-digits.ensures.value (omega arith)

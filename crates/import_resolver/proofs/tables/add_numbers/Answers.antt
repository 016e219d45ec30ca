use Rattle.std.proofs.Common.{◌∙◌, refl, sym}
use Rattle.import_resolver.proofs.Lists.{numbers-step, numbers-end}
use Rattle.import_resolver.proofs.tables.add_numbers.Goals as goal

pub loop-number-init : goal.loop-number-init
loop-number-init c = refl

pub loop-number-preserved : goal.loop-number-preserved
loop-number-preserved c =
    numbers-step c.loop-number.numbers.items c.add_number.new.numbers.items c.args.more.now c.loop-number.number-index c.loop-number-test.true c.in_ok-add_number.ensures
    ∙ c.loop-number.invariant

pub returns : goal.returns
returns c = sym (numbers-end c.loop-number.numbers.items c.args.more.now c.loop-number.number-index c.loop-number-test.false) ∙ c.loop-number.invariant

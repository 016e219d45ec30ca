use Rattle.slint_literals.proofs.NumberTexts.{numeral_is}
use Rattle.slint_literals.proofs.numbers.numbers_read.Goals as goal

pub returns : goal.returns
returns c = λ w f u h. (numeral_is w f u h).1

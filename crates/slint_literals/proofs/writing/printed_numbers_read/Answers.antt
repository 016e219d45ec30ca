use Rattle.slint_literals.proofs.SpelledNumbers.{spelled_worth}
use Rattle.slint_literals.proofs.writing.printed_numbers_read.Goals as goal

pub returns : goal.returns
returns c = spelled_worth

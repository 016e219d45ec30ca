use Rattle.slint_literals.proofs.ReadNumbers.{value_ready}
use Rattle.slint_literals.proofs.writing.read_numbers_ready.Goals as goal

pub returns : goal.returns
returns c = value_ready

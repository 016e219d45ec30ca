use Rattle.import_resolver.proofs.OneOutcome.{same}
use Rattle.import_resolver.proofs.laws.one_outcome.Goals as goal

pub returns : goal.returns
returns c = λ w main o p x y. same c.one_reading.ensures x y

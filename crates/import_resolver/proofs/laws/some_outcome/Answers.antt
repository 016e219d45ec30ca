use Rattle.import_resolver.proofs.SomeOutcome.{some_load}
use Rattle.import_resolver.proofs.laws.some_outcome.Goals as goal

pub returns : goal.returns
returns c = λ w main. some_load c.some_reading.ensures w main

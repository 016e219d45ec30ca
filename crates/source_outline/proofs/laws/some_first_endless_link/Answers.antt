use Rattle.source_outline.proofs.Deciding.{some-first}
use Rattle.source_outline.proofs.laws.some_first_endless_link.Goals as goal

pub returns : goal.returns
returns c = some-first c.circles_are_decided.ensures.circles

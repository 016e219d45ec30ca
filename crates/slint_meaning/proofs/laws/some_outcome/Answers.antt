use Rattle.slint_meaning.proofs.Outcomes.{has_outcome}
use Rattle.slint_meaning.proofs.laws.some_outcome.Goals as goal

pub returns : goal.returns
returns c = has_outcome c.some_verdict.ensures

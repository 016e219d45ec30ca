use Rattle.slint_meaning.proofs.Outcomes.{same_outcome}
use Rattle.slint_meaning.proofs.laws.one_outcome.Goals as goal

pub returns : goal.returns
returns c = same_outcome c.one_verdict.ensures

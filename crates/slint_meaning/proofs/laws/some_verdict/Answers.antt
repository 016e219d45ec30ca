use Rattle.slint_meaning.proofs.Judgements.{has_verdict}
use Rattle.slint_meaning.proofs.laws.some_verdict.Goals as goal

pub returns : goal.returns
returns c = has_verdict c.some_outcome.ensures c.some_resolution.ensures (λ tree. let told = c.some_purity_verdict.ensures tree in (told.verdict, told.first))

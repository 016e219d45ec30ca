use Rattle.slint_meaning.proofs.Judgements.{same_verdict}
use Rattle.slint_meaning.proofs.laws.one_verdict.Goals as goal

pub returns : goal.returns
returns c = same_verdict c.one_outcome.ensures c.one_resolution.ensures.one_tree c.one_resolution.ensures.one_fault c.one_resolution.ensures.not_both

use Rattle.alias_merge.proofs.CircleVerdict.{some_circle_verdict}
use Rattle.alias_merge.proofs.laws.some_circle_verdict.Goals as goal

pub returns : goal.returns
returns c = some_circle_verdict

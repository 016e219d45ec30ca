use Rattle.loop_check.proofs.Deciding.{some_verdict}
use Rattle.loop_check.proofs.laws.some_purity_verdict.Goals as goal

pub returns : goal.returns
returns c = some_verdict

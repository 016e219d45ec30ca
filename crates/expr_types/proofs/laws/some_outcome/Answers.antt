use Rattle.expr_types.proofs.Deciding.{some_outcome}
use Rattle.expr_types.proofs.laws.some_outcome.Goals as goal

pub returns : goal.returns
returns c = λ s n. some_outcome s n

use Rattle.expr_types.specs.Nodes.{Otherwise}
use Rattle.expr_types.proofs.Telling.{fault_told, own_told, none_seen, seen_at}
use Rattle.expr_types.proofs.endings.continued.Goals as goal

pub returns-in-Err : goal.returns-in-Err
returns-in-Err c = λ s t ends p. fault_told (Otherwise t ends c.args.otherwise.now) (seen_at c.in-Err.is p)

pub returns : goal.returns
returns c = λ s t ends p. own_told (Otherwise t ends c.args.otherwise.now) _ (seen_at c.in-Ok.is p) none_seen c.in_ok-verdict.ensures

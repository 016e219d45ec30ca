use Rattle.expr_types.specs.Nodes.{Assigned}
use Rattle.expr_types.proofs.Telling.{fault_told, own_told, none_seen, one_seen, told_at}
use Rattle.expr_types.proofs.assignments.assigned.Goals as goal

pub returns-in-Err : goal.returns-in-Err
returns-in-Err c = fault_told (Assigned c.args.left.now) (one_seen (told_at c.in-Err.is c.in_ok-denoted.ensures))

pub returns : goal.returns
returns c = own_told (Assigned c.args.left.now) _ (one_seen (told_at c.in-Ok.is c.in_ok-denoted.ensures)) none_seen c.in_ok-verdict.ensures

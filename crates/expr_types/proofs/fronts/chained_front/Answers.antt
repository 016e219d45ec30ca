use Rattle.std.proofs.Common.{reverse, take}
use Rattle.expr_types.specs.Nodes.{Chained}
use Rattle.expr_types.proofs.Telling.{fault_told, own_told, none_seen, seen_at}
use Rattle.expr_types.proofs.fronts.chained_front.Goals as goal

pub returns-in-Err : goal.returns-in-Err
returns-in-Err c = λ s p. fault_told (Chained c.args.e.now (reverse (take c.args.count c.args.operands.now))) (seen_at c.in-Err.is p)

pub returns : goal.returns
returns c = λ s p. own_told (Chained c.args.e.now (reverse (take c.args.count c.args.operands.now))) _ (seen_at c.in-Ok.is p) none_seen c.in_ok-verdict.ensures

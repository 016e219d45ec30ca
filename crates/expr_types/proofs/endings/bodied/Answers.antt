use Rattle.expr_types.specs.Nodes.{Body}
use Rattle.expr_types.proofs.Telling.{fault_told, own_told, none_seen, seen_at}
use Rattle.expr_types.proofs.endings.bodied.Goals as goal

pub returns-in-Err : goal.returns-in-Err
returns-in-Err c = λ s p. fault_told (Body c.args.ty.now c.args.stmts.now c.args.span) (seen_at c.in-Err.is p)

pub returns : goal.returns
returns c = λ s p. own_told (Body c.args.ty.now c.args.stmts.now c.args.span) _ (seen_at c.in-Ok.is p) none_seen c.in_ok-verdict.ensures

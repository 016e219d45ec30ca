use Rattle.expr_types.specs.Nodes.{Braces}
use Rattle.expr_types.proofs.Telling.{fault_told, own_told, none_seen, seen_at}
use Rattle.std.proofs.Common.{ap, Ok}
use Rattle.expr_types.proofs.endings.braced.Goals as goal

pub returns-in-Err : goal.returns-in-Err
returns-in-Err c = λ s t ends p. fault_told (Braces t ends c.args.stmts.now c.args.span) (seen_at c.in-Err.is p)

pub returns : goal.returns
returns c = λ s t ends p. own_told (Braces t ends c.args.stmts.now c.args.span) _ (seen_at c.in-Ok.is p) none_seen (ap Ok c.in_ok-block.ensures)

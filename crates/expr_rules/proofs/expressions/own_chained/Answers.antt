use Rattle.std.proofs.Common.{arith, ◌-◌}
use Rattle.expr_rules.proofs.Fronts.{chained_from}
use Rattle.expr_rules.proofs.expressions.own_chained.Goals as goal

pub returns : goal.returns
returns c =
    chained_from c.args.e.now c.args.operands.now c.args.count (c.args.count - 1) c.index-operands-count.result c.args.parts c.binary_op.result c.joined-span.result c.span.result c.span-2.result c.own_operation.result
    (omega arith) (omega arith) c.index-operands-count.is c.binary_op.ensures c.joined-span.ensures c.span.ensures c.span-2.ensures c.own_operation.ensures

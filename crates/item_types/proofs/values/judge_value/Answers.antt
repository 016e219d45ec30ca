use Rattle.item_types.proofs.Inside.{value_at}
use Rattle.item_types.proofs.values.judge_value.Goals as goal

pub returns-in-Expr : goal.returns-in-Expr
returns-in-Expr c = value_at c.args.scope.now c.args.ty.now c.expr_value.result c.in-Expr.is c.expr_value.ensures

pub returns-in-Block : goal.returns-in-Block
returns-in-Block c = value_at c.args.scope.now c.args.ty.now c.block_value.result c.in-Block.is c.block_value.ensures

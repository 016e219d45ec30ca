use Rattle.item_types.proofs.Inside.{sized_at}
use Rattle.item_types.proofs.values.sized_value.Goals as goal

pub returns-then-is_size : goal.returns-then-is_size
returns-then-is_size c = sized_at c.args.scope.now c.args.ty.now c.args.value.now c.size_value.result c.if-is_size.true c.size_value.ensures

pub returns : goal.returns
returns c = sized_at c.args.scope.now c.args.ty.now c.args.value.now c.plain_value.result c.if-is_size.false c.plain_value.ensures

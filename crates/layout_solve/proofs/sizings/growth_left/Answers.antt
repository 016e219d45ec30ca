use Rattle.std.proofs.Common.{arith}
use Rattle.layout_solve.proofs.Growth.{left-is}
use Rattle.layout_solve.proofs.sizings.growth_left.Goals as goal

pub returns : goal.returns
returns c = left-is c.args.even c.args.by c.args.item.now _ _ _ c.requires (omega arith) c.weight_in.ensures c.grown.ensures c.min.ensures.value

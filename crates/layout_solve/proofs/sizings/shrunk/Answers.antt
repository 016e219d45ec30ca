use Rattle.std.proofs.Common.{◌≡◌, arith}
use Rattle.layout_solve.specs.Sizes.{shrunk}
use Rattle.layout_solve.proofs.Wide.{cast-is}
use Rattle.layout_solve.proofs.Growth.{shrunk_within, shrunk-by}
use Rattle.layout_solve.proofs.sizings.shrunk.Goals as goal

value : (c : goal.After-max) → c.max.result ≡ shrunk c.args.by c.args.item.now
value c = shrunk-by c.args.by c.args.item.now _ _ _ c.max.result c.requires (omega arith) c.from.ensures c.from-2.ensures c.from-3.ensures c.max.ensures.value

pub returns : goal.returns
returns c = cast-is _ _ (shrunk_within c.args.by c.args.item.now c.requires) (value c)

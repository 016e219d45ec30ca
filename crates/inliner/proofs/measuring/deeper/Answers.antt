use Rattle.inliner.proofs.Sizing.{deeper_end}
use Rattle.inliner.proofs.measuring.deeper.Goals as goal

pub returns : goal.returns
returns c = λ n right. deeper_end n c.args.comps.now c.args.table.now c.loop-comp.comp-index c.loop-comp.made c.loop-comp-test.false c.loop-comp.auto.comp-index-end c.loop-comp.invariant right

use Rattle.std.proofs.Common.{suc}
use Rattle.expanded_tree.specs.Sizes.{most_elements}
use Rattle.inliner.specs.Extents.{extent_at}
use Rattle.inliner.proofs.Loops.{size_end}
use Rattle.inliner.proofs.measuring.total_size.Goals as goal

pub returns : goal.returns
returns c = size_end (suc most_elements) (extent_at c.args.table.now) c.args.elements.now c.loop-element.element-index c.loop-element.total c.loop-element.invariant.few c.loop-element-test.false c.loop-element.invariant.sum

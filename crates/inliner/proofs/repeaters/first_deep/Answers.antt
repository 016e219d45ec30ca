use Rattle.inliner.specs.Extents.{extent_at}
use Rattle.inliner.proofs.Loops.{deep_end, deep_turn}
use Rattle.inliner.proofs.repeaters.first_deep.Goals as goal

pub loop-number-preserved : goal.loop-number-preserved
loop-number-preserved c = deep_turn (extent_at c.args.table.now) c.args.around c.args.elements.now c.loop-number.number c.index-elements-number.result c.loop-number.first c.earlier-first.result
    c.index-elements-number.is c.loop-number-test.true c.depth_in-depth.ensures c.first_at.ensures c.earlier-first.ensures c.loop-number.invariant

pub returns : goal.returns
returns c = deep_end (extent_at c.args.table.now) c.args.around c.args.elements.now c.loop-number.number c.loop-number.first c.loop-number-test.false c.loop-number.invariant

use Rattle.inliner.proofs.Rows.{rows_begin, rows_end, rows_go}
use Rattle.inliner.proofs.children.children_in.Goals as goal

pub loop-number-init : goal.loop-number-init
loop-number-init c = rows_begin c.args.elements.now c.in_ok-rows.rows.items c.in_ok-rows.ensures

pub loop-number-preserved : goal.loop-number-preserved
loop-number-preserved c = rows_go c.args.elements.now c.loop-number.number c.index-elements-number.result c.loop-number.rows.items c.index-elements-number.is c.loop-number-test.true c.in_ok-add_child.ensures c.loop-number.invariant

pub returns : goal.returns
returns c = rows_end c.args.elements.now c.loop-number.number c.loop-number.rows.items c.loop-number-test.false c.from_vec.ensures c.loop-number.invariant

use Rattle.std.specs.Prelude.{take}
use Rattle.typed_tree.proofs.DeclarerLists.{declares_more}
use Rattle.typed_tree.proofs.FirstNumbers.{more_taken, taken_length}
use Rattle.typed_tree.proofs.declarers.declarers.Goals as goal

pub loop-number-preserved : goal.loop-number-preserved
loop-number-preserved c = declares_more (take c.loop-number.number c.args.comps.now) _ c.index-comps-number.result c.as_slice.result.now c.loop-number.number c.loop-number.found c.add_declarer.new.found
    (more_taken c.args.comps.now c.loop-number.number c.index-comps-number.result c.loop-number-test.true c.index-comps-number.is) (taken_length c.args.comps.now c.loop-number.number c.loop-number-test.true)
    c.as_slice.ensures c.in_ok-add_declarer.ensures c.loop-number.invariant

use Rattle.item_rules.specs.Items.{element_faults}
use Rattle.fault_order.proofs.Told.{numbered_end, numbered_turn}
use Rattle.item_rules.proofs.bodies.each_element.Goals as goal

pub loop-number-preserved : goal.loop-number-preserved
loop-number-preserved c = numbered_turn (element_faults c.args.names.now c.args.component c.args.elements.now) c.args.elements.now c.loop-number.number c.index-elements-number.result c.loop-number.first c.earlier-first.result c.index-elements-number.is c.loop-number-test.true c.in_ok-fault.ensures c.earlier-first.ensures c.loop-number.invariant

pub returns : goal.returns
returns c = numbered_end (element_faults c.args.names.now c.args.component c.args.elements.now) c.args.elements.now c.loop-number.number c.loop-number.first c.loop-number-test.false c.loop-number.invariant

use Rattle.item_rules.specs.Items.{id_of}
use Rattle.item_rules.proofs.Turns.{named_end, named_turn}
use Rattle.item_rules.proofs.bodies.twice_ids.Goals as goal

pub loop-element-preserved : goal.loop-element-preserved
loop-element-preserved c = named_turn id_of c.args.elements.now c.loop-element.element-index c.element-item.result c.loop-element.seen c.note_if_any.new.seen c.loop-element.fault c.in_ok-fault.fault c.element-item.is c.loop-element-test.true c.id.ensures c.in_ok-fault.ensures c.loop-element.invariant

pub returns : goal.returns
returns c = named_end id_of c.args.elements.now c.loop-element.element-index c.loop-element.seen c.loop-element.fault c.loop-element-test.false c.loop-element.invariant

use Rattle.item_rules.specs.Named.{name_by}
use Rattle.item_rules.proofs.Turns.{named_end, named_turn}
use Rattle.item_rules.proofs.names.twice_by.Goals as goal

pub loop-item-preserved : goal.loop-item-preserved
loop-item-preserved c = named_turn (name_by c.args.kind) c.args.items.now c.loop-item.item-index c.item-item.result c.loop-item.seen c.note_if_any.new.seen c.loop-item.fault c.in_ok-fault.fault c.item-item.is c.loop-item-test.true c.name_by.ensures c.in_ok-fault.ensures c.loop-item.invariant

pub returns : goal.returns
returns c = named_end (name_by c.args.kind) c.args.items.now c.loop-item.item-index c.loop-item.seen c.loop-item.fault c.loop-item-test.false c.loop-item.invariant

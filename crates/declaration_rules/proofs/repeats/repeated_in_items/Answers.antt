use Rattle.declaration_rules.specs.Repeats.{repeated_in_item}
use Rattle.declaration_rules.proofs.Telling.{tells-all, tells-next}
use Rattle.declaration_rules.proofs.repeats.repeated_in_items.Goals as goal

pub loop-item-preserved : goal.loop-item-preserved
loop-item-preserved c =
    tells-next repeated_in_item c.loop-item.first c.in_ok-fault.fault c.earlier-first.result c.args.items.now c.loop-item.item-index c.item-item.result c.loop-item-test.true c.item-item.is c.loop-item.invariant c.in_ok-fault.ensures c.earlier-first.ensures

pub returns : goal.returns
returns c = tells-all repeated_in_item c.loop-item.first c.args.items.now c.loop-item.item-index c.loop-item-test.false c.loop-item.invariant

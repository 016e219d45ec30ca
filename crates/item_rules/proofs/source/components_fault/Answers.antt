use Rattle.source_scopes.specs.Shown.{shown_component}
use Rattle.item_rules.specs.Items.{component_faults}
use Rattle.item_rules.proofs.Turns.{shown_end, shown_turn}
use Rattle.item_rules.proofs.source.components_fault.Goals as goal

pub loop-number-preserved : goal.loop-number-preserved
loop-number-preserved c = shown_turn shown_component (component_faults c.args.names.now) c.args.components.now c.loop-number.number c.index-components-number.result c.loop-number.first c.earlier-first.result c.index-components-number.is c.loop-number-test.true c.in_ok-fault.ensures c.earlier-first.ensures c.loop-number.invariant

pub returns : goal.returns
returns c = shown_end shown_component (component_faults c.args.names.now) c.args.components.now c.loop-number.number c.loop-number.first c.loop-number-test.false c.loop-number.invariant

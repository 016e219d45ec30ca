use Rattle.item_rules.specs.Items.{parameter_faults}
use Rattle.fault_order.proofs.Told.{told_end, told_turn}
use Rattle.item_rules.proofs.items.parameter_types.Goals as goal

pub loop-parameter-preserved : goal.loop-parameter-preserved
loop-parameter-preserved c = told_turn parameter_faults c.args.parameters.now c.loop-parameter.parameter-index c.parameter-item.result c.loop-parameter.first c.earlier-first.result c.parameter-item.is c.loop-parameter-test.true c.in_ok-type_fault.ensures c.earlier-first.ensures c.loop-parameter.invariant

pub returns : goal.returns
returns c = told_end parameter_faults c.args.parameters.now c.loop-parameter.parameter-index c.loop-parameter.first c.loop-parameter-test.false c.loop-parameter.invariant

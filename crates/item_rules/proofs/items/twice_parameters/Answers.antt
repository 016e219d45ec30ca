use Rattle.item_rules.specs.Items.{parameter_name}
use Rattle.item_rules.proofs.Turns.{named_end, named_turn}
use Rattle.item_rules.proofs.items.twice_parameters.Goals as goal

pub loop-parameter-preserved : goal.loop-parameter-preserved
loop-parameter-preserved c = named_turn parameter_name c.args.parameters.now c.loop-parameter.parameter-index c.parameter-item.result c.loop-parameter.seen c.note_if_any.new.seen c.loop-parameter.fault c.in_ok-fault.fault c.parameter-item.is c.loop-parameter-test.true c.as_ref.ensures.value c.in_ok-fault.ensures c.loop-parameter.invariant

pub returns : goal.returns
returns c = named_end parameter_name c.args.parameters.now c.loop-parameter.parameter-index c.loop-parameter.seen c.loop-parameter.fault c.loop-parameter-test.false c.loop-parameter.invariant

use Rattle.std.proofs.Common.{refl}
use Rattle.item_rules.specs.Items.{state_name}
use Rattle.item_rules.proofs.Turns.{named_end, named_turn}
use Rattle.item_rules.proofs.items.twice_states.Goals as goal

pub loop-state-preserved : goal.loop-state-preserved
loop-state-preserved c = named_turn state_name c.args.states.now c.loop-state.state-index c.state-item.result c.loop-state.seen c.note_if_any.new.seen c.loop-state.fault c.in_ok-fault.fault c.state-item.is c.loop-state-test.true refl c.in_ok-fault.ensures c.loop-state.invariant

pub returns : goal.returns
returns c = named_end state_name c.args.states.now c.loop-state.state-index c.loop-state.seen c.loop-state.fault c.loop-state-test.false c.loop-state.invariant

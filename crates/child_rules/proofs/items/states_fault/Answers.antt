use Rattle.child_rules.specs.Children.{state_faults}
use Rattle.fault_order.proofs.Told.{told_end, told_turn}
use Rattle.child_rules.proofs.items.states_fault.Goals as goal

pub loop-state-preserved : goal.loop-state-preserved
loop-state-preserved c = told_turn (state_faults c.args.places.now c.args.body.component c.args.body.element) c.args.states.now c.loop-state.state-index c.state-item.result c.loop-state.first c.earlier-first.result c.state-item.is c.loop-state-test.true c.in_ok-fault.ensures c.earlier-first.ensures c.loop-state.invariant

pub returns : goal.returns
returns c = told_end (state_faults c.args.places.now c.args.body.component c.args.body.element) c.args.states.now c.loop-state.state-index c.loop-state.first c.loop-state-test.false c.loop-state.invariant

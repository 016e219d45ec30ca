use Rattle.std.proofs.Common.{ap, ◌∙◌}
use Rattle.std.specs.List.{flat_map}
use Rattle.fault_order.specs.Order.{first_of}
use Rattle.item_rules.specs.Items.{change_faults, state_faults}
use Rattle.fault_order.proofs.Told.{told_end, told_turn}
use Rattle.item_rules.proofs.items.changes_fault.Goals as goal

pub loop-state-preserved : goal.loop-state-preserved
loop-state-preserved c = told_turn (state_faults c.args.body.now) c.args.states.now c.loop-state.state-index c.state-item.result c.loop-state.first c.earlier-first.result c.state-item.is c.loop-state-test.true (c.in_ok-state_fault.ensures ∙ ap (λ xs. first_of (flat_map (change_faults c.args.body.now) xs)) c.as_slice.ensures) c.earlier-first.ensures c.loop-state.invariant

pub returns : goal.returns
returns c = told_end (state_faults c.args.body.now) c.args.states.now c.loop-state.state-index c.loop-state.first c.loop-state-test.false c.loop-state.invariant

use Rattle.std.specs.List.{filter_map, flat_map}
use Rattle.item_rules.specs.Items.{state_faults, state_name}
use Rattle.item_rules.specs.Twice.{twice_in}
use Rattle.fault_order.proofs.Told.{both_told}
use Rattle.item_rules.proofs.items.states_fault.Goals as goal

pub returns : goal.returns
returns c = both_told (twice_in (filter_map state_name c.args.states.now)) (flat_map (state_faults c.args.body.now) c.args.states.now) c.earlier.ensures c.in_ok-twice.ensures c.in_ok-changes.ensures

use Rattle.std.specs.List.{filter_map, flat_map}
use Rattle.item_rules.specs.Items.{parameter_faults, parameter_name}
use Rattle.item_rules.specs.Twice.{twice_in}
use Rattle.fault_order.proofs.Told.{both_told}
use Rattle.item_rules.proofs.items.parameters_fault.Goals as goal

pub returns : goal.returns
returns c = both_told (twice_in (filter_map parameter_name c.args.parameters.now)) (flat_map parameter_faults c.args.parameters.now) c.earlier.ensures c.in_ok-twice.ensures c.in_ok-types.ensures

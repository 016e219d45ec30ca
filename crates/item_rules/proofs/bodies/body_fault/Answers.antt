use Rattle.std.specs.List.{flat_map}
use Rattle.item_rules.specs.Items.{one_item_faults}
use Rattle.item_rules.specs.Named.{names_faults}
use Rattle.fault_order.proofs.Told.{both_told}
use Rattle.item_rules.proofs.bodies.body_fault.Goals as goal

pub returns : goal.returns
returns c = both_told (names_faults c.args.items.now) (flat_map (one_item_faults c.args.body.now) c.args.items.now) c.earlier.ensures c.in_ok-names.ensures c.in_ok-alone.ensures

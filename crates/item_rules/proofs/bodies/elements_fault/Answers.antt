use Rattle.std.specs.List.{filter_map}
use Rattle.item_rules.specs.Items.{element_faults, id_of}
use Rattle.item_rules.specs.Twice.{twice_in}
use Rattle.fault_order.specs.Order.{numbered}
use Rattle.fault_order.proofs.Told.{both_told}
use Rattle.item_rules.proofs.bodies.elements_fault.Goals as goal

pub returns : goal.returns
returns c = both_told (twice_in (filter_map id_of c.args.elements.now)) (numbered (element_faults c.args.names.now c.args.component c.args.elements.now) 0 c.args.elements.now) c.earlier.ensures c.in_ok-ids.ensures c.in_ok-bodies.ensures

use Rattle.std.specs.Option.{option_copied}
use Rattle.item_rules.specs.Items.{parameters_faults}
use Rattle.item_rules.specs.Types.{if_written, type_faults}
use Rattle.fault_order.proofs.Told.{both_told}
use Rattle.item_rules.proofs.items.signature_fault.Goals as goal

pub returns : goal.returns
returns c = both_told (if_written parameters_faults (option_copied c.args.parameters)) (if_written type_faults (option_copied c.args.ty)) c.earlier.ensures c.in_ok-taken.ensures c.in_ok-given.ensures

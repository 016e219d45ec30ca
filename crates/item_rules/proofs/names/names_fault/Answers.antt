use Rattle.item_rules.specs.Named.{heard_faults, made_faults}
use Rattle.fault_order.proofs.Told.{both_told}
use Rattle.item_rules.proofs.names.names_fault.Goals as goal

pub returns : goal.returns
returns c = both_told (made_faults c.args.items.now) (heard_faults c.args.items.now) c.earlier.ensures c.in_ok-made.ensures c.in_ok-heard.ensures

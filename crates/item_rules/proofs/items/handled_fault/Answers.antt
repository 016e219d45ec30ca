use Rattle.std.proofs.Common.{ap, ◌∙◌}
use Rattle.fault_order.specs.Order.{first_of}
use Rattle.item_rules.specs.Twice.{twice_in}
use Rattle.item_rules.specs.Types.{if_written}
use Rattle.item_rules.specs.Uses.{handler_faults}
use Rattle.fault_order.proofs.Told.{both_told}
use Rattle.item_rules.proofs.items.handled_fault.Goals as goal

pub returns : goal.returns
returns c = both_told (handler_faults c.args.body.now c.args.handler.now.name) (if_written twice_in c.args.handler.now.parameters) c.earlier.ensures c.in_ok-name.ensures (c.in_ok-parameters.ensures ∙ ap (λ o. first_of (if_written twice_in o)) c.as_ref.ensures.value)

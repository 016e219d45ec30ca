use Rattle.std.proofs.Common.{◌++◌, ap, ◌∙◌}
use Rattle.fault_order.specs.Order.{first_of}
use Rattle.item_rules.specs.Items.{clash_faults, value_faults}
use Rattle.item_rules.specs.Types.{if_written, type_faults}
use Rattle.fault_order.proofs.Told.{both_told}
use Rattle.item_rules.proofs.items.property_fault.Goals as goal

pub returns : goal.returns
returns c = both_told (clash_faults c.args.body.now c.args.property.now.name) (if_written type_faults c.args.property.now.ty ++ value_faults c.args.body.now c.args.property.now.mark c.args.property.now.value) c.earlier-2.ensures c.clash-name.ensures
    (both_told (if_written type_faults c.args.property.now.ty) (value_faults c.args.body.now c.args.property.now.mark c.args.property.now.value) c.earlier.ensures (c.in_ok-ty.ensures ∙ ap (λ o. first_of (if_written type_faults o)) c.as_ref.ensures.value) c.in_ok-value.ensures)

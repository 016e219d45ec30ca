use Rattle.std.proofs.Common.{◌++◌, ap, ◌∙◌}
use Rattle.fault_order.specs.Order.{first_of}
use Rattle.item_rules.specs.Items.{clash_faults}
use Rattle.item_rules.specs.Types.{fields_faults, if_written, type_faults}
use Rattle.fault_order.proofs.Told.{both_told}
use Rattle.item_rules.proofs.items.function_fault.Goals as goal

pub returns : goal.returns
returns c = both_told (clash_faults c.args.body.now c.args.function.now.name) (fields_faults c.args.function.now.parameters ++ if_written type_faults c.args.function.now.result) c.earlier-2.ensures c.clash-name.ensures
    (both_told (fields_faults c.args.function.now.parameters) (if_written type_faults c.args.function.now.result) c.earlier.ensures (c.in_ok-taken.ensures ∙ ap (λ xs. first_of (fields_faults xs)) c.as_slice.ensures) (c.in_ok-given.ensures ∙ ap (λ o. first_of (if_written type_faults o)) c.as_ref.ensures.value))

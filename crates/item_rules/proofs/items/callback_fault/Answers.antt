use Rattle.item_rules.specs.Items.{clash_faults, form_faults}
use Rattle.fault_order.proofs.Told.{both_told}
use Rattle.item_rules.proofs.items.callback_fault.Goals as goal

pub returns : goal.returns
returns c = both_told (clash_faults c.args.body.now c.args.callback.now.name) (form_faults c.args.body.now c.args.callback.now.form) c.earlier.ensures c.clash-name.ensures c.in_ok-form.ensures

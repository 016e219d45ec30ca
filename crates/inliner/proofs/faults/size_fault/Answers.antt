use Rattle.std.proofs.Common.{ap, ◌∙◌}
use Rattle.fault_order.specs.Order.{first_of}
use Rattle.fault_order.proofs.Told.{both_told}
use Rattle.expanded_tree.specs.Limits.{count_faults}
use Rattle.expanded_tree.specs.Repeaters.{repeater_faults}
use Rattle.inliner.proofs.faults.size_fault.Goals as goal

pub returns : goal.returns
returns c = both_told (count_faults c.args.tree.now.comps c.args.tree.now.root) (repeater_faults c.args.tree.now.comps c.args.tree.now.root) c.earlier.ensures
    (c.count_fault-of_count.ensures ∙ ap (λ cs. first_of (count_faults cs c.args.tree.now.root)) c.as_slice-comps.ensures)
    (c.repeater_fault-of_repeaters.ensures ∙ ap (λ cs. first_of (repeater_faults cs c.args.tree.now.root)) c.as_slice-comps.ensures)

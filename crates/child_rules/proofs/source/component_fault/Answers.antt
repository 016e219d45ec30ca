use Rattle.std.proofs.Common.{◌∙◌, ap}
use Rattle.fault_order.specs.Order.{first_of}
use Rattle.child_rules.specs.Ends.{written_faults_by}
use Rattle.child_rules.proofs.source.component_fault.Goals as goal

pub returns : goal.returns
returns c = c.in_ok-fault.ensures ∙ ap (λ written. first_of (written_faults_by c.args.ends.now c.args.places.now c.args.component written)) (c.as_slice.ensures ∙ c.in_ok-written.ensures)

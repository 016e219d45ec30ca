use Rattle.std.proofs.Common.{◌∙◌, ap}
use Rattle.fault_order.specs.Order.{first_of}
use Rattle.name_lookup.specs.Leads.{path_name}
use Rattle.child_rules.specs.Children.{lead_faults}
use Rattle.child_rules.proofs.items.led_fault.Goals as goal

pub returns : goal.returns
returns c = c.lead_fault-fault.ensures
    ∙ ap (λ span. first_of (lead_faults c.args.places.now.comps c.args.body.component span c.in_ok-lead.lead)) c.path_name.ensures
    ∙ ap (λ lead. first_of (lead_faults c.args.places.now.comps c.args.body.component (path_name c.args.path.now) lead)) c.in_ok-lead.ensures

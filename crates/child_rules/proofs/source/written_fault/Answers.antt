use Rattle.std.proofs.Common.{◌∙◌, ap}
use Rattle.fault_order.specs.Order.{earlier_of}
use Rattle.child_rules.specs.Children.{bodies_faults, elements_faults}
use Rattle.child_rules.specs.Ends.{grid_faults_by}
use Rattle.fault_order.proofs.Told.{three_told}
use Rattle.child_rules.proofs.source.written_fault.Goals as goal

pub returns : goal.returns
returns c = c.earlier-2.ensures ∙ ap (earlier_of c.elements_fault-elements.result) c.earlier.ensures
    ∙ three_told (elements_faults c.args.places.now.comps c.args.component) (bodies_faults c.args.places.now c.args.component c.args.written.now)
    (grid_faults_by c.args.ends.now c.args.places.now.comps c.args.component c.args.written.now) c.elements_fault-elements.ensures c.in_ok-bodies.ensures c.in_ok-cells.ensures

use Rattle.std.specs.Prelude.{false}
use Rattle.child_rules.specs.Children.{number_faults, path_faults}
use Rattle.fault_order.proofs.Told.{both_told}
use Rattle.child_rules.proofs.items.link_fault.Goals as goal

pub returns : goal.returns
returns c = both_told (number_faults c.args.places.now.comps c.args.body.component c.args.body.element c.args.link.now.left false)
    (path_faults c.args.places.now c.args.body.component c.args.body.element c.args.link.now.right) c.earlier.ensures c.number_fault-left.ensures c.in_ok-right.ensures

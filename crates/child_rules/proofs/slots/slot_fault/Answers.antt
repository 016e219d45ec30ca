use Rattle.child_rules.specs.Cells.{takes_cells}
use Rattle.child_rules.specs.Children.{is_misplaced}
use Rattle.child_rules.specs.Faults.{grid_place_if, misplaced_if}
use Rattle.child_rules.specs.Landing.{inside}
use Rattle.fault_order.proofs.Told.{both_told}
use Rattle.child_rules.proofs.slots.slot_fault.Goals as goal

pub returns : goal.returns
returns c = both_told (misplaced_if (is_misplaced c.args.places.now.comps c.args.component c.args.element c.args.first c.args.span) c.args.span)
    (grid_place_if (takes_cells (inside c.args.places.now.comps c.args.component c.args.element)) c.args.span) c.earlier.ensures c.later_fault-later.ensures c.in_grid_fault-in_grid.ensures

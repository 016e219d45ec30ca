use Rattle.std.specs.Prelude.{◌&&◌, not}
use Rattle.std.proofs.Common.{◌∙◌, ap}
use Rattle.fault_order.specs.Order.{earlier_of}
use Rattle.child_rules.specs.Cells.{is_among_cells, is_in_grid}
use Rattle.child_rules.specs.Children.{is_in_leaf, repeat_faults}
use Rattle.child_rules.specs.Faults.{grid_place_if, misplaced_if}
use Rattle.fault_order.proofs.Told.{three_told}
use Rattle.child_rules.proofs.children.place_fault.Goals as goal

pub returns : goal.returns
returns c = c.earlier-2.ensures ∙ ap (earlier_of c.leaf_fault-leaf.result) c.earlier.ensures
    ∙ three_told (misplaced_if (is_in_leaf c.args.lands) c.args.element.now.ty_span) (grid_place_if (c.args.is_row && not (is_in_grid c.args.lands)) c.args.element.now.ty_span)
    (repeat_faults (is_among_cells c.args.lands) c.args.element.now.repeat) c.leaf_fault-leaf.ensures c.row_fault-row.ensures c.repeated_fault-repeated.ensures

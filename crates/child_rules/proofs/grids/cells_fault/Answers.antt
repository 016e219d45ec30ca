use Rattle.std.proofs.Common.{◌∙◌, ap}
use Rattle.fault_order.specs.Order.{first_of}
use Rattle.child_rules.specs.Cells.{grid_of}
use Rattle.child_rules.specs.Grids.{cursor_for, end_faults}
use Rattle.child_rules.proofs.Along.{cells_end, cells_turn}
use Rattle.child_rules.proofs.grids.cells_fault.Goals as goal

pub loop-number-preserved : goal.loop-number-preserved
loop-number-preserved c = cells_turn c.args.places.now.comps c.args.component c.args.written.now c.loop-number.number c.index-written-number.result c.loop-number.cursors c.move_on.new.cursors c.loop-number.first c.earlier-first.result c.index-written-number.is c.loop-number-test.true
    (c.cell_fault-fault.ensures ∙ ap (λ cursors. first_of (end_faults c.args.places.now.comps c.args.component c.loop-number.number c.index-written-number.result.body (cursor_for cursors (grid_of c.args.places.now.comps c.args.component c.loop-number.number)))) c.as_slice.ensures)
    c.earlier-first.ensures c.move_on.ensures c.loop-number.invariant

pub returns : goal.returns
returns c = cells_end c.args.places.now.comps c.args.component c.args.written.now c.loop-number.number c.loop-number.cursors c.loop-number.first c.loop-number-test.false c.loop-number.invariant

use Rattle.std.proofs.Common.{ap, ◌∙◌, arith}
use Rattle.property_cells.specs.Points.{points_of}
use Rattle.property_cells.specs.Marks.{pending, points_marked}
use Rattle.property_cells.proofs.UnmakingLoop.{head_of, Unmakes_on-more, weight_falls}
use Rattle.property_cells.proofs.marks.Marks.unmake.Goals as goal

pub take_out-requires : goal.take_out-requires
take_out-requires c = λ cell e. head_of c.args.deps.now.pairs c.args.points.now.entries.items (pending c.args.self.now) (pending c.loop-cell.self) c.loop-cell.invariant cell e

pub mark_cell-requires-clause-inside : goal.mark_cell-requires-clause-inside
mark_cell-requires-clause-inside c =
    let inside = head_of c.args.deps.now.pairs c.args.points.now.entries.items (pending c.args.self.now) (pending c.loop-cell.self) c.loop-cell.invariant c.in-Some.cell c.in-Some.ensures.0 in
    let same = c.loop-cell.invariant.length_same in let below = c.requires.cells in omega (arith, inside, same, below)

pub loop-cell-smaller : goal.loop-cell-smaller
loop-cell-smaller c =
    let pairs = c.args.deps.now.pairs in let es = c.args.points.now.entries.items in
    weight_falls pairs es (pending c.args.self.now) (pending c.loop-cell.self) (pending c.mark_cell.new.self) c.in-Some.cell c.loop-cell.invariant c.in-Some.ensures.0 c.requires.readers
    (c.mark_cell.ensures ∙ ap (points_marked pairs (points_of es c.in-Some.cell)) c.in-Some.ensures.1)

pub loop-cell-preserved : goal.loop-cell-preserved
loop-cell-preserved c =
    let pairs = c.args.deps.now.pairs in let es = c.args.points.now.entries.items in
    Unmakes_on-more pairs es (pending c.args.self.now) (pending c.loop-cell.self) (pending c.mark_cell.new.self) c.in-Some.cell c.loop-cell.invariant c.in-Some.ensures.0 c.requires.readers
    (c.mark_cell.ensures ∙ ap (points_marked pairs (points_of es c.in-Some.cell)) c.in-Some.ensures.1)

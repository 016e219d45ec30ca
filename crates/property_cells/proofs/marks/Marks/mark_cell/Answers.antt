use Rattle.std.proofs.Common.{length}
use Rattle.property_cells.specs.Marks.{pending}
use Rattle.property_cells.proofs.MarkingLoops.{MarksPoints-none, MarksPoints-more, AllBelow-readers, points_fall, next_is}
use Rattle.property_cells.proofs.marks.Marks.mark_cell.Goals as goal

pub loop-at-init : goal.loop-at-init
loop-at-init c = MarksPoints-none c.args.deps.now.pairs c.args.points.now.entries.items c.args.cell (pending c.args.self.now) c.last-at.result c.last-at.ensures c.requires.readers

pub mark_readers-requires : goal.mark_readers-requires
mark_readers-requires c = AllBelow-readers (length c.loop-at.self.cells.items) (length c.args.points.now.entries.items) c.in-Some.point c.args.deps.now.pairs c.loop-at.invariant.inside

pub loop-at-smaller : goal.loop-at-smaller
loop-at-smaller c =
    let es = c.args.points.now.entries.items in
    points_fall es c.args.cell c.in-Some.point c.loop-at.at c.before-at.result c.in-Some.is
    (next_is es c.args.cell c.loop-at.at c.in-Some.point c.before-at.result c.loop-at.invariant.there c.in-Some.is c.before-at.ensures)

pub loop-at-preserved : goal.loop-at-preserved
loop-at-preserved c =
    MarksPoints-more c.args.deps.now.pairs c.args.points.now.entries.items c.args.cell (pending c.args.self.now) c.loop-at.at (pending c.loop-at.self) c.in-Some.point (pending c.mark_readers.new.self) c.before-at.result
    c.loop-at.invariant c.in-Some.is c.mark_readers.ensures c.before-at.ensures

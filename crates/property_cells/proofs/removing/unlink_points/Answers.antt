use Rattle.std.proofs.Common.{subst, arith}
use Rattle.property_cells.proofs.MarkingLoops.{PointOf, points_fall, next_is}
use Rattle.property_cells.proofs.BlockLoops.{Unlinks-none, Unlinks-more, Unlinks-all}
use Rattle.property_cells.proofs.removing.unlink_points.Goals as goal

pub loop-at-init : goal.loop-at-init
loop-at-init c = Unlinks-none c.args.points.now.entries.items c.args.cell c.args.deps.now.readers c.args.deps.now c.last-at.result c.last-at.ensures c.requires.pairs

pub unlink_point-requires : goal.unlink_point-requires
unlink_point-requires c =
    let here = subst (PointOf c.args.points.now.entries.items c.args.cell) c.in-Some.is c.loop-at.invariant.there in
    let inside = here.0 in let e = c.loop-at.invariant.points in omega (arith, inside, e, c.requires.points)

pub loop-at-smaller : goal.loop-at-smaller
loop-at-smaller c =
    let es = c.args.points.now.entries.items in
    points_fall es c.args.cell c.in-Some.point c.loop-at.at c.before-at.result c.in-Some.is
    (next_is es c.args.cell c.loop-at.at c.in-Some.point c.before-at.result c.loop-at.invariant.there c.in-Some.is c.before-at.ensures)

pub loop-at-preserved : goal.loop-at-preserved
loop-at-preserved c =
    Unlinks-more c.args.points.now.entries.items c.args.cell c.args.deps.now c.loop-at.at c.loop-at.deps c.in-Some.point c.unlink_point.new.self c.before-at.result c.loop-at.invariant c.in-Some.is c.unlink_point.ensures.pairs c.unlink_point.ensures.ends c.before-at.ensures

pub returns-clause-pairs : goal.returns-clause-pairs
returns-clause-pairs c = Unlinks-all c.args.points.now.entries.items c.args.cell c.args.deps.now c.loop-at.at c.loop-at.deps c.loop-at.invariant c.in_default.is

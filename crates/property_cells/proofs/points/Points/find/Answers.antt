use Rattle.std.proofs.Common.{◌∙◌}
use Rattle.property_cells.proofs.MarkingLoops.{points_fall, next_is}
use Rattle.property_cells.proofs.HitsLoop.{not_true}
use Rattle.property_cells.proofs.PointLemmas.{SearchSoFar-none, SearchSoFar-more}
use Rattle.property_cells.proofs.points.Points.find.Goals as goal

pub loop-at-init : goal.loop-at-init
loop-at-init c = SearchSoFar-none c.args.self.now.entries.items c.args.cell c.args.facet c.last-at.result c.last-at.ensures

pub loop-at-smaller : goal.loop-at-smaller
loop-at-smaller c =
    let es = c.args.self.now.entries.items in
    points_fall es c.args.cell c.in-Some.point c.loop-at.at c.before-at.result c.in-Some.is
    (next_is es c.args.cell c.loop-at.at c.in-Some.point c.before-at.result c.loop-at.invariant.there c.in-Some.is c.before-at.ensures)

pub loop-at-preserved : goal.loop-at-preserved
loop-at-preserved c =
    let es = c.args.self.now.entries.items in
    SearchSoFar-more es c.args.cell c.args.facet c.loop-at.at c.in-Some.point c.before-at.result c.loop-at.invariant c.in-Some.is
    (λ same. not_true c.is_same.result c.if-is_same.false (c.is_same.ensures.1 (c.facet.ensures ∙ same))) c.before-at.ensures

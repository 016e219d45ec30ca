use Rattle.std.proofs.Common.{length, refl}
use Rattle.std.proofs.lemmas.Option.{slice_get_read}
use Rattle.inliner.proofs.Rows.{tables_begin, tables_end, tables_go}
use Rattle.inliner.proofs.children.all_children.Goals as goal

pub loop-comp-init : goal.loop-comp-init
loop-comp-init c = tables_begin c.args.comps.now c.new-tables.result c.new-tables.ensures

pub loop-comp-preserved : goal.loop-comp-preserved
loop-comp-preserved c = tables_go c.args.comps.now c.loop-comp.comp-index c.comp-item.result c.in_ok-rows.rows c.loop-comp.tables
    (slice_get_read c.args.comps.now (length c.args.comps.now) c.loop-comp.comp-index c.comp-item.result refl c.loop-comp-test.true c.comp-item.is)
    c.as_slice.ensures c.in_ok-rows.ensures c.in_ok-push.ensures.ok c.loop-comp.invariant

pub returns : goal.returns
returns c = tables_end c.args.comps.now c.loop-comp.comp-index c.loop-comp.tables c.loop-comp-test.false c.loop-comp.auto.comp-index-end c.loop-comp.invariant

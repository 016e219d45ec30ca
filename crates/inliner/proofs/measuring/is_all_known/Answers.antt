use Rattle.std.proofs.Common.{ap, below_more, length, refl, sym, ◌∙◌}
use Rattle.std.proofs.lemmas.Option.{slice_get_read}
use Rattle.inliner.specs.Extents.{extent_in}
use Rattle.inliner.proofs.measuring.is_all_known.Goals as goal

pub loop-extent-preserved : goal.loop-extent-preserved
loop-extent-preserved c = below_more _ _ c.loop-extent.invariant
    (ap (λ o. (extent_in o).is_whole) (slice_get_read c.args.table.now (length c.args.table.now) c.loop-extent.extent-index c.extent-item.result refl c.loop-extent-test.true c.extent-item.is)
    ∙ sym c.is_known.ensures ∙ c.if-not-is_known.false)

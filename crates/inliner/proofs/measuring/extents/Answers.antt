use Rattle.std.proofs.Common.{ap, length, sym, ◌∙◌}
use Rattle.inliner.proofs.Sizing.{known_at}
use Rattle.inliner.proofs.measuring.extents.Goals as goal

pub all_or_by_levels-requires : goal.all_or_by_levels-requires
all_or_by_levels-requires c = known_at (length c.as_slice.result.now) (length c.args.comps.now) c.args.comps.now c.in_ok-table.table
    (ap length c.as_slice.ensures ∙ sym c.len.ensures ∙ c.if-len-comps.true) c.in_ok-table.ensures

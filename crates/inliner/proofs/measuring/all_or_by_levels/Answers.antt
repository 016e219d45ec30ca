use Rattle.std.proofs.Common.{length}
use Rattle.inliner.proofs.Sizing.{all_known}
use Rattle.inliner.proofs.measuring.all_or_by_levels.Goals as goal

pub returns-then-is_all_known : goal.returns-then-is_all_known
returns-then-is_all_known c = all_known (length c.args.comps.now) c.args.comps.now c.args.table c.as_slice.result.now c.as_slice.ensures c.is_all_known.ensures c.if-is_all_known.true c.requires

use Rattle.std.proofs.Common.{◌≡◌, ℕ, ◌<◌, true}
use Rattle.inliner.specs.Extents.{extent_at}
use Rattle.inliner.proofs.measuring.is_all_known.Given as goal

abbrev pub invariant-loop-extent : goal.invariant-loop-extent
invariant-loop-extent l = (k : ℕ) → k < l.extent-index → (extent_at l.table k).is_whole ≡ true

use Rattle.std.proofs.Common.{◌≡◌}
use Rattle.std.specs.Prelude.{replicate}
use Rattle.inliner.specs.Extents.{unknown}
use Rattle.inliner.proofs.measuring.nothing_known.Given as goal

abbrev pub invariant-loop : goal.invariant-loop
invariant-loop l = l.table ≡ replicate l.counter unknown

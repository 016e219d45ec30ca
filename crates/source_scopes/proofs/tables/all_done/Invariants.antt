use Rattle.std.proofs.Common.{ℕ, ◌<◌}
use Rattle.std.specs.Prelude.{slice_get}
use Rattle.source_scopes.specs.Tables.{IsDone}
use Rattle.source_scopes.proofs.tables.all_done.Given as goal

-- those so far are done
abbrev pub invariant-loop-table : goal.invariant-loop-table
invariant-loop-table l = (k : ℕ) → k < l.table-index → IsDone (slice_get l.tables k)

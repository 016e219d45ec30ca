use Rattle.std.proofs.Common.{length}
use Rattle.import_resolver.specs.Loaded.{rows_of}
use Rattle.import_resolver.proofs.Rows.{IsSplit}
use Rattle.import_resolver.proofs.loaded.Loaded.of_table.Given as goal

-- the files that have rows, and those that are left
abbrev pub invariant-loop-file : goal.invariant-loop-file
invariant-loop-file l = IsSplit l.main l.names l.fn.table.files l.files (rows_of l.loaded)

abbrev pub decreases-loop-file : goal.decreases-loop-file
decreases-loop-file l = length l.files

use Rattle.std.proofs.Common.{◌≡◌}
use Rattle.import_resolver.specs.Loaded.{rows_of}
use Rattle.source_scopes.specs.Declarations.{counts_before}
use Rattle.source_scopes.specs.Tables.{AreStarts}
use Rattle.source_scopes.proofs.files.starts_of.Given as goal

-- the starts of the files so far
abbrev pub invariant-loop-number : goal.invariant-loop-number
invariant-loop-number l = record {
  starts : AreStarts (rows_of l.loaded) l.number l.starts;
  counts : l.counts ≡ counts_before (rows_of l.loaded) l.number;
}

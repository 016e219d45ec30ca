use Rattle.std.proofs.Common.{◌≡◌, ◌<◌, ℕ, length, Some}
use Rattle.std.specs.Prelude.{slice_get}
use Rattle.import_resolver.specs.Loaded.{rows_of}
use Rattle.source_scopes.specs.Names.{file_names}
use Rattle.source_scopes.proofs.scopes.names_of_files.Given as goal

-- the files so far
abbrev pub invariant-loop-file : goal.invariant-loop-file
invariant-loop-file l = record {
  sized : length l.names ≡ l.file;
  each : (k : ℕ) → k < length l.names → slice_get l.names k ≡ Some (file_names (rows_of l.loaded) k);
}

use Rattle.std.proofs.Common.{◌≡◌, map, take}
use Rattle.import_resolver.specs.Loaded.{rows_of}
use Rattle.source_scopes.specs.Declarations.{structs_among, of_files}
use Rattle.source_scopes.specs.Shown.{shown_struct}
use Rattle.source_scopes.proofs.declarations.structs_of.Given as goal

-- those of the files so far
abbrev pub invariant-loop-file : goal.invariant-loop-file
invariant-loop-file l = map shown_struct l.made ≡ of_files structs_among 0 (take l.file (rows_of l.loaded))

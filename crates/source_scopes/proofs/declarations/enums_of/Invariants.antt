use Rattle.std.proofs.Common.{◌≡◌, ◌++◌, take}
use Rattle.import_resolver.specs.Loaded.{rows_of}
use Rattle.typed_tree.specs.BuiltIns.{built_in_enums}
use Rattle.source_scopes.specs.Declarations.{enums_among, of_files}
use Rattle.source_scopes.proofs.declarations.enums_of.Given as goal

-- those of the files so far
abbrev pub invariant-loop-file : goal.invariant-loop-file
invariant-loop-file l = l.made ≡ built_in_enums ++ of_files enums_among 0 (take l.file (rows_of l.loaded))

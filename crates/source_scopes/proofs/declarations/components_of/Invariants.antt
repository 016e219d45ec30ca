use Rattle.std.proofs.Common.{◌≡◌, map, take}
use Rattle.import_resolver.specs.Loaded.{rows_of}
use Rattle.source_scopes.specs.Declarations.{components_among, of_files}
use Rattle.source_scopes.specs.Shown.{shown_component}
use Rattle.source_scopes.proofs.declarations.components_of.Given as goal

-- those of the files so far
abbrev pub invariant-loop-file : goal.invariant-loop-file
invariant-loop-file l = map shown_component l.made ≡ of_files components_among 0 (take l.file (rows_of l.loaded))

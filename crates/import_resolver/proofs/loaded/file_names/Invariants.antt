use Rattle.std.proofs.Common.{◌≡◌, take}
use Rattle.import_resolver.specs.Tables.{names_of}
use Rattle.import_resolver.proofs.loaded.file_names.Given as goal

-- the names of the files so far
abbrev pub invariant-loop-file : goal.invariant-loop-file
invariant-loop-file l = l.names ≡ names_of (take l.file-index l.files)

use Rattle.std.proofs.Common.{◌≡◌, ◌++◌, drop}
use Rattle.source_outline.specs.Outlines.{files_from}
use Rattle.source_outline.proofs.outlines.file_outlines.Given as goal

-- the files so far and those that are left
abbrev pub invariant-loop-file : goal.invariant-loop-file
invariant-loop-file l = l.made ++ files_from l.scopes l.file (drop l.file l.scopes) ≡ files_from l.scopes 0 l.scopes

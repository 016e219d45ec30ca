use Rattle.std.proofs.Common.{◌≡◌, map, take}
use Rattle.source_scopes.specs.Shown.{normal_of}
use Rattle.source_scopes.proofs.declarations.normal_names.Given as goal

-- the names so far
abbrev pub invariant-loop-text : goal.invariant-loop-text
invariant-loop-text l = l.names ≡ map normal_of (take l.text-index l.texts)

use Rattle.std.proofs.Common.{◌≡◌, take}
use Rattle.source_scopes.proofs.scopes.copy_names.Given as goal

-- the names so far
abbrev pub invariant-loop-name : goal.invariant-loop-name
invariant-loop-name l = l.same ≡ take l.name-index l.names

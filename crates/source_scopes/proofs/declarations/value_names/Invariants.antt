use Rattle.std.proofs.Common.{◌≡◌, map, take}
use Rattle.source_scopes.specs.Declarations.{value_name}
use Rattle.source_scopes.proofs.declarations.value_names.Given as goal

-- the names so far
abbrev pub invariant-loop-value : goal.invariant-loop-value
invariant-loop-value l = l.names ≡ map value_name (take l.value-index l.values)

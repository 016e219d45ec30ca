use Rattle.std.proofs.Common.{◌≡◌, map, take}
use Rattle.source_scopes.specs.Naming.{name_of_file_name}
use Rattle.source_scopes.proofs.naming.index_of.Given as goal

-- the names so far
abbrev pub invariant-loop-name : goal.invariant-loop-name
invariant-loop-name l = l.index ≡ map name_of_file_name (take l.name-index l.names)

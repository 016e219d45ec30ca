use Rattle.std.proofs.Common.{◌≡◌, take}
use Rattle.std.specs.List.{filter_map}
use Rattle.source_scopes.specs.Names.{named_as}
use Rattle.source_scopes.specs.Structs.{type_at}
use Rattle.source_scopes.proofs.naming.names_of.Given as goal

-- the names so far
abbrev pub invariant-loop-entry : goal.invariant-loop-entry
invariant-loop-entry l = l.names ≡ filter_map (named_as (type_at l.types)) (take l.entry-index l.entries)

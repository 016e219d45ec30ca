use Rattle.std.proofs.Common.{◌≡◌, ◌++◌, map, take}
use Rattle.std.specs.Option.{option_copied}
use Rattle.source_scopes.specs.Entries.{renamed}
use Rattle.source_scopes.specs.Tables.{entries_in}
use Rattle.source_scopes.proofs.tables.with_renamed.Given as goal

-- the names so far
abbrev pub invariant-loop-alias : goal.invariant-loop-alias
invariant-loop-alias l = l.more ≡ l.fn.entries ++ map (renamed (entries_in (option_copied l.from))) (take l.alias-index l.names)

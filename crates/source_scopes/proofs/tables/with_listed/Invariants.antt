use Rattle.std.proofs.Common.{◌≡◌, map, take}
use Rattle.source_scopes.specs.Entries.{renamed, with_entries}
use Rattle.source_scopes.proofs.tables.with_listed.Given as goal

-- the names so far
abbrev pub invariant-loop-alias : goal.invariant-loop-alias
invariant-loop-alias l = l.more ≡ with_entries l.fn.entries (map (renamed l.scope) (take l.alias-index l.names))

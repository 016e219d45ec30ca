use Rattle.std.proofs.Common.{◌≡◌, take}
use Rattle.source_scopes.specs.Entries.{with_entries}
use Rattle.source_scopes.proofs.tables.with_copies.Given as goal

-- the names so far
abbrev pub invariant-loop-entry : goal.invariant-loop-entry
invariant-loop-entry l = l.more ≡ with_entries l.fn.entries (take l.entry-index l.others)

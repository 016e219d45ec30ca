use Rattle.std.proofs.Common.{◌≡◌, ℕ, List, [], drop}
use Rattle.source_scopes.specs.declared.meanings.Entry.{Entry}
use Rattle.source_scopes.specs.Entries.{exports_among}
use Rattle.source_scopes.specs.Tables.{AsExported}
use Rattle.source_scopes.proofs.tables.export_entries.Given as goal

-- the names so far, and those of the items that are left
abbrev pub invariant-loop-item : goal.invariant-loop-item
invariant-loop-item l = (exports : ℕ → List Entry) → AsExported exports l.done
    → exports_among exports l.scope [] l.fn.counts l.file.tree.items l.file.imports.items ≡ exports_among exports l.scope l.entries l.before (drop l.item-index l.file.tree.items) l.left

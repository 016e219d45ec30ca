use Rattle.std.proofs.Common.{◌≡◌, ◌++◌, drop}
use Rattle.source_scopes.specs.Entries.{exports_of}
use Rattle.declaration_rules.specs.Exports.{groups_among}
use Rattle.declaration_rules.proofs.exports.groups.Given as goal

-- what is there and what the other items come to is what all items come to
abbrev pub invariant-loop-item : goal.invariant-loop-item
invariant-loop-item l = l.groups ++ groups_among (exports_of l.scopes) (drop l.item-index l.items) l.numbers ≡ groups_among (exports_of l.scopes) l.items l.imports

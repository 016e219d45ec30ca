use Rattle.std.proofs.Common.{◌≡◌, ◌++◌, take}
use Rattle.source_scopes.specs.Declarations.{enums_among}
use Rattle.source_scopes.proofs.declarations.add_enums.Given as goal

-- those of the items so far
abbrev pub invariant-loop-item : goal.invariant-loop-item
invariant-loop-item l = l.made ≡ l.initial.made ++ enums_among 0 (take l.item-index l.items)

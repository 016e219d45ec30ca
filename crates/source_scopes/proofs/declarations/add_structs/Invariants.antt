use Rattle.std.proofs.Common.{◌≡◌, ◌++◌, map, take}
use Rattle.source_scopes.specs.Declarations.{structs_among}
use Rattle.source_scopes.specs.Shown.{shown_struct}
use Rattle.source_scopes.proofs.declarations.add_structs.Given as goal

-- those of the items so far
abbrev pub invariant-loop-item : goal.invariant-loop-item
invariant-loop-item l = map shown_struct l.made ≡ map shown_struct l.initial.made ++ structs_among l.file (take l.item-index l.items)

use Rattle.std.proofs.Common.{◌≡◌, ◌++◌, map, take}
use Rattle.source_scopes.specs.Declarations.{globals_among}
use Rattle.source_scopes.specs.Shown.{shown_global}
use Rattle.source_scopes.proofs.declarations.add_globals.Given as goal

-- those of the items so far
abbrev pub invariant-loop-item : goal.invariant-loop-item
invariant-loop-item l = map shown_global l.made ≡ map shown_global l.initial.made ++ globals_among l.file (take l.item-index l.items)

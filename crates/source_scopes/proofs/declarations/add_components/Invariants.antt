use Rattle.std.proofs.Common.{◌≡◌, ◌++◌, map, take}
use Rattle.source_scopes.specs.Declarations.{components_among}
use Rattle.source_scopes.specs.Shown.{shown_component}
use Rattle.source_scopes.proofs.declarations.add_components.Given as goal

-- those of the items so far
abbrev pub invariant-loop-item : goal.invariant-loop-item
invariant-loop-item l = map shown_component l.made ≡ map shown_component l.initial.made ++ components_among l.file (take l.item-index l.items)

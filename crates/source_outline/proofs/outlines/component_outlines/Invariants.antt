use Rattle.std.proofs.Common.{◌≡◌, map, take}
use Rattle.source_scopes.specs.Shown.{shown_component}
use Rattle.source_outline.specs.Outlines.{component_outline}
use Rattle.source_outline.proofs.outlines.component_outlines.Given as goal

-- the components so far
abbrev pub invariant-loop-component : goal.invariant-loop-component
invariant-loop-component l = l.made ≡ map (component_outline l.scopes) (map shown_component (take l.component-index l.components))

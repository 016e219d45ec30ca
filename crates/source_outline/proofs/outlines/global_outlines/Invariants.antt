use Rattle.std.proofs.Common.{◌≡◌, map, take}
use Rattle.source_scopes.specs.Shown.{shown_global}
use Rattle.source_outline.specs.Outlines.{global_outline}
use Rattle.source_outline.proofs.outlines.global_outlines.Given as goal

-- the globals so far
abbrev pub invariant-loop-global : goal.invariant-loop-global
invariant-loop-global l = l.made ≡ map (global_outline l.scopes) (map shown_global (take l.global-index l.globals))

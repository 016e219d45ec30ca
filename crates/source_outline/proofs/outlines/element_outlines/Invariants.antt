use Rattle.std.proofs.Common.{◌≡◌, map, take}
use Rattle.source_outline.specs.Outlines.{element_outline}
use Rattle.source_outline.proofs.outlines.element_outlines.Given as goal

-- the elements so far
abbrev pub invariant-loop-one : goal.invariant-loop-one
invariant-loop-one l = l.made ≡ map (element_outline l.scopes l.file l.component) (take l.one-index l.written)

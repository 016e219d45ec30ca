use Rattle.std.proofs.Common.{◌≡◌, map, take}
use Rattle.child_rules.specs.Ends.{first_cursor_by}
use Rattle.child_rules.proofs.grids.first_cursors.Given as goal

-- those so far
abbrev pub invariant-loop-element : goal.invariant-loop-element
invariant-loop-element l = l.cursors ≡ map (first_cursor_by l.ends l.places.comps) (take l.element-index l.elements)

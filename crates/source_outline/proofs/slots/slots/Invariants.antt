use Rattle.std.proofs.Common.{◌≡◌, ◌++◌, drop}
use Rattle.source_outline.specs.Slots.{element_slots}
use Rattle.source_outline.proofs.slots.slots.Given as goal

-- the places so far and those of the elements that are left
abbrev pub invariant-loop-element : goal.invariant-loop-element
invariant-loop-element l = l.made ++ element_slots l.element (drop l.element l.written) ≡ element_slots 0 l.written

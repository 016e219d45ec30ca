use Rattle.std.proofs.Common.{◌≡◌, ◌≤◌, ◌++◌, drop}
use Rattle.source_outline.specs.Slots.{body_slots}
use Rattle.source_outline.proofs.slots.push_slots.Given as goal

-- the places so far and those of the items that are left
abbrev pub invariant-loop-item : goal.invariant-loop-item
invariant-loop-item l = (l.before ≤ l.item-index) × (l.out ++ body_slots l.element l.before (drop l.item-index l.items) ≡ l.initial.out ++ body_slots l.element 0 l.items)

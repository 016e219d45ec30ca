use Rattle.std.proofs.Common.{◌≡◌, drop, None}
use Rattle.source_outline.specs.Slots.{first_slot}
use Rattle.source_outline.proofs.slots.first_slot.Given as goal

-- what is left has the same first place
abbrev pub invariant-loop-slot : goal.invariant-loop-slot
invariant-loop-slot l = first_slot l.best (drop l.slot-index l.slots) ≡ first_slot None l.slots

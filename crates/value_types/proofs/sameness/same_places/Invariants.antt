use Rattle.std.proofs.Common.{◌≡◌, length, take}
use Rattle.value_types.proofs.sameness.same_places.Given as goal

-- the rows before this place are the same
abbrev pub invariant-loop-place : goal.invariant-loop-place
invariant-loop-place l = (length l.a ≡ length l.b) × (take l.place l.a ≡ take l.place l.b)

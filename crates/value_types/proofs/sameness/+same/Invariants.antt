use Rattle.std.proofs.Common.{◌≡◌, length, take}
use Rattle.value_types.proofs.sameness.+same.Given as goal

-- the fields before this place are the same
abbrev pub invariant-same_fields-loop-place : goal.invariant-same_fields-loop-place
invariant-same_fields-loop-place l = (length l.a ≡ length l.b) × (take l.place l.a ≡ take l.place l.b)

-- the values before this place are the same
abbrev pub invariant-same_values-loop-place : goal.invariant-same_values-loop-place
invariant-same_values-loop-place l = (length l.a ≡ length l.b) × (take l.place l.a ≡ take l.place l.b)

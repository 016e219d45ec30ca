use Rattle.std.proofs.Common.{◌≡◌, length, take}
use Rattle.row_models.proofs.items.same_items.Given as goal

-- the values before this place are the same
abbrev pub invariant-loop-place : goal.invariant-loop-place
invariant-loop-place l = (length l.a ≡ length l.b) × (take l.place l.a ≡ take l.place l.b)

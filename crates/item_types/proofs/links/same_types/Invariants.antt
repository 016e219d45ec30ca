use Rattle.std.proofs.Common.{◌≡◌, drop, length}
use Rattle.item_types.specs.Items.{same_types}
use Rattle.item_types.proofs.links.same_types.Given as goal

-- the types are the same if those that are left are
abbrev pub invariant-loop-place : goal.invariant-loop-place
invariant-loop-place l = (length l.types ≡ length l.others) × (same_types l.types l.others ≡ same_types (drop l.place l.types) (drop l.place l.others))

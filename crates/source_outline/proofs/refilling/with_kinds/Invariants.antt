use Rattle.std.proofs.Common.{◌≡◌, ◌++◌, length, reverse}
use Rattle.source_outline.specs.Following.{with_kinds}
use Rattle.source_outline.proofs.refilling.with_kinds.Given as goal

-- the members so far and those that are left
abbrev pub invariant-loop-member : goal.invariant-loop-member
invariant-loop-member l = l.made ++ with_kinds l.kinds (length l.made) (reverse l.left) ≡ with_kinds l.kinds 0 l.fn.members

abbrev pub decreases-loop-member : goal.decreases-loop-member
decreases-loop-member l = length l.left

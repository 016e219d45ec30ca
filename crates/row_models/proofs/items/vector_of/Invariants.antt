use Rattle.std.proofs.Common.{◌≡◌, ◌++◌, length, reverse}
use Rattle.row_models.proofs.items.vector_of.Given as goal

-- the values from the end on so far
abbrev pub invariant-loop-value : goal.invariant-loop-value
invariant-loop-value l = l.fn.values ≡ l.values ++ reverse l.vector.items

-- the values that are left
abbrev pub decreases-loop-value : goal.decreases-loop-value
decreases-loop-value l = length l.values

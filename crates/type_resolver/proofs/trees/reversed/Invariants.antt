use Rattle.std.proofs.Common.{◌≡◌, ◌++◌, reverse, length}
use Rattle.type_resolver.proofs.trees.reversed.Given as goal

-- the items are those that are left and those taken so far
abbrev pub invariant-loop-item : goal.invariant-loop-item
invariant-loop-item g l = reverse l.fn.items ≡ l.made ++ reverse l.items

abbrev pub decreases-loop-item : goal.decreases-loop-item
decreases-loop-item g l = length l.items

use Rattle.std.proofs.Common.{◌≡◌, ◌++◌, take}
use Rattle.finite_graphs.proofs.search.append.Given as goal

-- what stood there, and the numbers so far behind it
abbrev pub invariant-loop-item : goal.invariant-loop-item
invariant-loop-item l = l.items ≡ l.initial.items ++ take l.item-index l.more

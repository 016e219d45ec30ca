use Rattle.std.proofs.Common.{◌≡◌, drop}
use Rattle.source_scopes.specs.Declarations.{counted_all}
use Rattle.source_scopes.proofs.numbers.counted_all.Given as goal

-- the count of what is left, behind what was counted
abbrev pub invariant-loop-item : goal.invariant-loop-item
invariant-loop-item l = counted_all l.fn.counts l.items ≡ counted_all l.so_far (drop l.item-index l.items)

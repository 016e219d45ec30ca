use Rattle.std.proofs.Common.{◌≡◌, ◌+◌, drop}
use Rattle.std.specs.Prelude.{fold, sum}
use Rattle.alias_merge.proofs.numbers.total.Given as goal

-- with what is left the sum becomes that of all
abbrev pub invariant-loop-size : goal.invariant-loop-size
invariant-loop-size l = fold (λ a x. a + x) l.count (drop l.size-index l.sizes) ≡ sum l.sizes

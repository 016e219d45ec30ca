use Rattle.std.proofs.Common.{◌≡◌, ◌++◌, map, reverse, length}
use Rattle.expr_rules.specs.Own.{as_type}
use Rattle.expr_rules.proofs.fitting.as_types.Given as goal

-- the values are those made so far and those of what is left
abbrev pub invariant-loop-e : goal.invariant-loop-e
invariant-loop-e l = map (as_type l.ty) l.fn.es ≡ l.made ++ map (as_type l.ty) (reverse l.left)

abbrev pub decreases-loop-e : goal.decreases-loop-e
decreases-loop-e l = length l.left

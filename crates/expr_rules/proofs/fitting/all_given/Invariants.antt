use Rattle.std.proofs.Common.{◌≡◌, ◌++◌, map, reverse, length}
use Rattle.expr_rules.specs.Denotations.{given}
use Rattle.expr_rules.proofs.fitting.all_given.Given as goal

-- the values are those made so far and those of what is left
abbrev pub invariant-loop-part : goal.invariant-loop-part
invariant-loop-part l = map given l.fn.parts ≡ l.made ++ map given (reverse l.left)

abbrev pub decreases-loop-part : goal.decreases-loop-part
decreases-loop-part l = length l.left

use Rattle.std.proofs.Common.{◌≡◌, ◌++◌, length, reverse}
use Rattle.expr_rules.specs.Literals.{filled}
use Rattle.expr_rules.proofs.templates.filled.Given as goal

-- the holes are those made so far and those of what is left
abbrev pub invariant-loop-piece : goal.invariant-loop-piece
invariant-loop-piece l = filled (reverse l.fn.pieces) l.fn.parts ≡ l.made ++ filled (reverse l.pieces) (reverse l.left)

abbrev pub decreases-loop-piece : goal.decreases-loop-piece
decreases-loop-piece l = length l.pieces

use Rattle.std.proofs.Common.{◌≡◌, ◌++◌, drop, reverse}
use Rattle.expr_rules.specs.Literals.{typed_holes}
use Rattle.expr_rules.proofs.templates.typed_holes.Given as goal

-- the holes are those made so far and those of what is left
abbrev pub invariant-loop-hole : goal.invariant-loop-hole
invariant-loop-hole l = typed_holes l.holes l.fn.parts ≡ l.made ++ typed_holes (drop l.hole-index l.holes) (reverse l.left)

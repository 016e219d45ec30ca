use Rattle.std.proofs.Common.{◌≡◌, ◌++◌, map, drop}
use Rattle.source_outline.specs.Doubling.{again, doubled}
use Rattle.source_outline.proofs.ends.doubled.Given as goal

-- the members so far and those that are left
abbrev pub invariant-loop-end : goal.invariant-loop-end
invariant-loop-end l = l.made ++ map (again l.ends) (drop l.end-index l.ends) ≡ doubled l.ends

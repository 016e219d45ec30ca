use Rattle.std.proofs.Common.{◌≡◌, ◌++◌, length, reverse}
use Rattle.source_outline.specs.Following.{globals_with}
use Rattle.source_outline.proofs.refilling.globals_with.Given as goal

-- the globals so far and those that are left
abbrev pub invariant-loop-global : goal.invariant-loop-global
invariant-loop-global l = l.made ++ globals_with l.rest (reverse l.left) ≡ globals_with l.kinds l.fn.globals

abbrev pub decreases-loop-global : goal.decreases-loop-global
decreases-loop-global l = length l.left

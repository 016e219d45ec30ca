use Rattle.std.proofs.Common.{◌≡◌, ◌++◌, length, reverse}
use Rattle.source_outline.specs.Following.{comps_with}
use Rattle.source_outline.proofs.refilling.comps_with.Given as goal

-- the components so far and those that are left
abbrev pub invariant-loop-comp : goal.invariant-loop-comp
invariant-loop-comp l = l.made ++ comps_with l.rest (reverse l.left) ≡ comps_with l.kinds l.fn.comps

abbrev pub decreases-loop-comp : goal.decreases-loop-comp
decreases-loop-comp l = length l.left

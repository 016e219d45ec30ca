use Rattle.std.proofs.Common.{◌≡◌, ◌++◌, map, drop, length}
use Rattle.source_outline.specs.Following.{next_by}
use Rattle.source_outline.proofs.numbers.nexts_of.Given as goal

-- the numbers so far and those of the members that are left
abbrev pub invariant-loop-follower : goal.invariant-loop-follower
invariant-loop-follower l = l.nexts ++ map (next_by l.comps l.globals (length l.followers)) (drop l.follower-index l.followers) ≡ map (next_by l.comps l.globals (length l.followers)) l.followers

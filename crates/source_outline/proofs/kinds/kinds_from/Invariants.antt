use Rattle.std.proofs.Common.{◌≡◌, ◌++◌, drop}
use Rattle.source_outline.specs.Following.{kinds_from}
use Rattle.source_outline.proofs.kinds.kinds_from.Given as goal

-- the kinds so far and those that are left
abbrev pub invariant-loop-number : goal.invariant-loop-number
invariant-loop-number l = l.kinds ++ kinds_from l.followers l.ends l.number (drop l.number l.followers) ≡ kinds_from l.followers l.ends 0 l.followers

use Rattle.std.proofs.Common.{◌≡◌, ◌++◌, drop, map}
use Rattle.std.specs.Option.{option_copied}
use Rattle.source_outline.specs.Following.{global_followers}
use Rattle.source_outline.proofs.followers.push_global_followers.Given as goal

-- the members so far and those that are left
abbrev pub invariant-loop-number : goal.invariant-loop-number
invariant-loop-number l = l.out ++ global_followers l.names l.global l.members l.number (map option_copied (drop l.number l.links)) ≡ l.initial.out ++ global_followers l.names l.global l.members 0 (map option_copied l.links)

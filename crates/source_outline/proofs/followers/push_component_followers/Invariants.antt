use Rattle.std.proofs.Common.{◌≡◌, ◌++◌, drop, map}
use Rattle.std.specs.Option.{option_copied}
use Rattle.source_outline.specs.Following.{component_followers}
use Rattle.source_outline.proofs.followers.push_component_followers.Given as goal

-- the members so far and those that are left
abbrev pub invariant-loop-number : goal.invariant-loop-number
invariant-loop-number l = l.out ++ component_followers l.names l.component l.outline l.number (map option_copied (drop l.number l.links)) ≡ l.initial.out ++ component_followers l.names l.component l.outline 0 (map option_copied l.links)

use Rattle.std.proofs.Common.{◌≡◌, ◌++◌, drop, map}
use Rattle.source_scopes.specs.Shown.{shown_component}
use Rattle.source_outline.specs.Following.{followers_of_comps}
use Rattle.source_outline.proofs.followers.push_components.Given as goal

-- the members so far and those of the components that are left
abbrev pub invariant-loop-number : goal.invariant-loop-number
invariant-loop-number l = l.out ++ followers_of_comps l.names l.number (map shown_component (drop l.number l.components)) ≡ l.initial.out ++ followers_of_comps l.names 0 (map shown_component l.components)

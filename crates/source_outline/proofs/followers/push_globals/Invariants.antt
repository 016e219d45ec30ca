use Rattle.std.proofs.Common.{◌≡◌, ◌++◌, drop, map}
use Rattle.source_scopes.specs.Shown.{shown_global}
use Rattle.source_outline.specs.Following.{followers_of_globals}
use Rattle.source_outline.proofs.followers.push_globals.Given as goal

-- the members so far and those of the globals that are left
abbrev pub invariant-loop-number : goal.invariant-loop-number
invariant-loop-number l = l.out ++ followers_of_globals l.names l.number (map shown_global (drop l.number l.globals)) ≡ l.initial.out ++ followers_of_globals l.names 0 (map shown_global l.globals)

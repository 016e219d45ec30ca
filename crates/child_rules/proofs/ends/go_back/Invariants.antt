use Rattle.std.proofs.Common.{map, length}
use Rattle.child_rules.proofs.BackWays.{Back}
use Rattle.source_scopes.specs.Shown.{shown_component}
use Rattle.child_rules.proofs.ends.go_back.Given as goal

abbrev pub invariant-loop-component : goal.invariant-loop-component
invariant-loop-component l = Back (map shown_component l.declared) l.places.comps l.fn.way.from l.comps l.cursor l.known

abbrev pub decreases-loop-component : goal.decreases-loop-component
decreases-loop-component l = length l.comps

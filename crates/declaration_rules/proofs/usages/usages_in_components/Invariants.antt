use Rattle.std.proofs.Common.{◌≡◌, [], map, take}
use Rattle.source_scopes.specs.Shown.{shown_component}
use Rattle.declaration_rules.specs.Circles.{usages_in_component}
use Rattle.declaration_rules.specs.Turns.{in_turn}
use Rattle.declaration_rules.proofs.usages.usages_in_components.Given as goal

-- the uses in the front of the list are there
abbrev pub invariant-loop-number : goal.invariant-loop-number
invariant-loop-number l = l.usages ≡ in_turn (usages_in_component l.scopes) [] (map shown_component (take l.number l.components))

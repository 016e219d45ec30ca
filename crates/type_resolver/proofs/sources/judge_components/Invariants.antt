use Rattle.std.proofs.Common.{map, take}
use Rattle.source_scopes.specs.Shown.{shown_component}
use Rattle.item_types.specs.Judging.{Tells, each}
use Rattle.type_resolver.specs.Bodies.{component, counted}
use Rattle.type_resolver.proofs.sources.judge_components.Given as goal

-- what is told of those so far
abbrev pub invariant-loop-number : goal.invariant-loop-number
invariant-loop-number l = Tells (each (component l.names) (counted 0 (take l.number (map shown_component l.components)))) l.seen

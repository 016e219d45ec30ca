use Rattle.std.proofs.Common.{map, take}
use Rattle.source_scopes.specs.Shown.{shown_global}
use Rattle.item_types.specs.Judging.{Tells, each}
use Rattle.type_resolver.specs.Bodies.{global, counted}
use Rattle.type_resolver.proofs.sources.judge_globals.Given as goal

-- what is told of those so far
abbrev pub invariant-loop-number : goal.invariant-loop-number
invariant-loop-number l = Tells (each (global l.names) (counted 0 (take l.number (map shown_global l.globals)))) l.seen

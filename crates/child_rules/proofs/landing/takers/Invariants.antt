use Rattle.std.proofs.Common.{◌≡◌, map, take}
use Rattle.child_rules.specs.Landing.{taker_of}
use Rattle.child_rules.proofs.landing.takers.Given as goal

-- those so far
abbrev pub invariant-loop-comp : goal.invariant-loop-comp
invariant-loop-comp l = l.types ≡ map taker_of (take l.comp-index l.comps)

use Rattle.std.proofs.Common.{◌≡◌, ◌++◌, take}
use Rattle.loop_check.specs.Bodies.{bodies_from, component_bodies}
use Rattle.loop_check.proofs.bodies.add_components.Given as goal

-- what there is so far
abbrev pub invariant-loop-number : goal.invariant-loop-number
invariant-loop-number l = l.bodies ≡ l.initial.bodies ++ bodies_from component_bodies 0 (take l.number l.comps)

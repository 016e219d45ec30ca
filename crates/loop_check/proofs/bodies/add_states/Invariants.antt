use Rattle.std.proofs.Common.{◌≡◌, ◌++◌, take}
use Rattle.std.specs.List.{flat_map}
use Rattle.loop_check.specs.Bodies.{bodies_of_state}
use Rattle.loop_check.proofs.bodies.add_states.Given as goal

-- what there is so far
abbrev pub invariant-loop-state : goal.invariant-loop-state
invariant-loop-state l = l.bodies ≡ l.initial.bodies ++ flat_map bodies_of_state (take l.state-index l.states)

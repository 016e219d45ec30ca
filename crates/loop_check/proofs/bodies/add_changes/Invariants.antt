use Rattle.std.proofs.Common.{◌≡◌, ◌++◌, take}
use Rattle.std.specs.List.{flat_map}
use Rattle.loop_check.specs.Bodies.{bodies_of_change}
use Rattle.loop_check.proofs.bodies.add_changes.Given as goal

-- what there is so far
abbrev pub invariant-loop-change : goal.invariant-loop-change
invariant-loop-change l = l.bodies ≡ l.initial.bodies ++ flat_map bodies_of_change (take l.change-index l.changes)

use Rattle.std.proofs.Common.{◌≡◌, ◌++◌, take}
use Rattle.std.specs.List.{flat_map}
use Rattle.loop_check.specs.Bodies.{bodies_of_item}
use Rattle.loop_check.proofs.bodies.add_items.Given as goal

-- what there is so far
abbrev pub invariant-loop-item : goal.invariant-loop-item
invariant-loop-item l = l.bodies ≡ l.initial.bodies ++ flat_map (bodies_of_item l.home) (take l.item-index l.items)

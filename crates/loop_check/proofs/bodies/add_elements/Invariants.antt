use Rattle.std.proofs.Common.{◌≡◌, ◌++◌, take}
use Rattle.std.specs.List.{flat_map}
use Rattle.loop_check.specs.Bodies.{bodies_of_element}
use Rattle.loop_check.proofs.bodies.add_elements.Given as goal

-- what there is so far
abbrev pub invariant-loop-element : goal.invariant-loop-element
invariant-loop-element l = l.bodies ≡ l.initial.bodies ++ flat_map (bodies_of_element l.home) (take l.element-index l.elements)

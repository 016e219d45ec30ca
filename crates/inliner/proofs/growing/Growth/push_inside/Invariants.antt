use Rattle.std.proofs.Common.{◌≡◌, drop}
use Rattle.expanded_tree.specs.Bodies.{growth_of, with_elements}
use Rattle.inliner.proofs.growing.Growth.push_inside.Given as goal

abbrev pub invariant-loop-number : goal.invariant-loop-number
invariant-loop-number l = with_elements l.comps l.body l.depth (growth_of l.self.bodies l.self.places) l.number (drop l.number l.elements)
    ≡ with_elements l.comps l.body l.depth (growth_of l.initial.self.bodies l.initial.self.places) 0 l.elements

use Rattle.std.proofs.Common.{◌≡◌, ◌-◌}
use Rattle.expanded_tree.specs.Bodies.{grown, growth_of}
use Rattle.inliner.proofs.growing.Growth.push_level.Given as goal

abbrev pub invariant-loop-body : goal.invariant-loop-body
invariant-loop-body l = grown (l.end - l.body) l.comps l.body (growth_of l.self.bodies l.self.places)
    ≡ grown (l.end - l.first) l.comps l.first (growth_of l.initial.self.bodies l.initial.self.places)

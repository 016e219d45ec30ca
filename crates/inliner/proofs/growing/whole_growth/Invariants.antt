use Rattle.std.proofs.Common.{◌≡◌, ◌-◌}
use Rattle.expanded_tree.specs.Bodies.{deepened, growth_of, whole_growth}
use Rattle.inliner.proofs.growing.whole_growth.Given as goal

abbrev pub invariant-loop : goal.invariant-loop
invariant-loop l = deepened (l.end - l.counter) l.comps l.first (growth_of l.growth.bodies l.growth.places) ≡ whole_growth l.comps l.root

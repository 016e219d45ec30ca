use Rattle.std.proofs.Common.{◌≡◌, ◌-◌}
use Rattle.expanded_tree.specs.Bodies.{with_lineage}
use Rattle.inliner.proofs.growing.push_lineage.Given as goal

abbrev pub invariant-loop : goal.invariant-loop
invariant-loop l = with_lineage l.end l.comps l.fn.spot l.fn.depth l.fn.ty l.initial.bodies ≡ with_lineage (l.end - l.counter) l.comps l.spot l.depth l.ty l.bodies

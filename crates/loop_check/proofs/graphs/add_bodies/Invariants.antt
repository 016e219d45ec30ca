use Rattle.std.proofs.Common.{◌≡◌, ◌++◌, take}
use Rattle.loop_check.specs.Graphs.{edges_in}
use Rattle.loop_check.proofs.graphs.add_bodies.Given as goal

-- what there is so far
abbrev pub invariant-loop-body : goal.invariant-loop-body
invariant-loop-body l = (l.graph.nodes ≡ l.initial.graph.nodes) × (l.graph.edges ≡ l.initial.graph.edges ++ edges_in l.tree l.numbers (take l.body-index l.bodies))

use Rattle.std.proofs.Common.{◌≡◌, ◌++◌, take}
use Rattle.std.specs.List.{flat_map}
use Rattle.loop_check.specs.Graphs.{edge_of}
use Rattle.loop_check.proofs.graphs.add_acts.Given as goal

-- what there is so far
abbrev pub invariant-loop-act : goal.invariant-loop-act
invariant-loop-act l = (l.graph.nodes ≡ l.initial.graph.nodes) × (l.graph.edges ≡ l.initial.graph.edges ++ flat_map (edge_of l.numbers l.to) (take l.act-index l.acts))

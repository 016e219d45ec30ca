use Rattle.std.proofs.Common.{map, ◌∙◌, ap}
use Rattle.loop_check.specs.Graphs.{is_marked}
use Rattle.loop_check.proofs.Spreading.{spreads_by, within_nodes}
use Rattle.loop_check.proofs.graphs.Spread.new.Goals as goal

pub add_bodies-requires : goal.add_bodies-requires
add_bodies-requires c = within_nodes c.in_ok-numbering.ensures c.len.result c.new-graph.result c.new-graph.ensures c.len.ensures

pub returns : goal.returns
returns c =
    spreads_by c.in_ok-numbering.ensures c.len.result c.new-graph.result c.add_bodies.new.graph c.as_slice-2.result.now c.args.bodies.now c.in_ok-reached.reached c.new-graph.ensures c.len.ensures
    c.in_ok-add_bodies.ensures c.requires (c.as_slice-2.ensures ∙ c.in_ok-marks.ensures ∙ ap (map (is_marked c.args.tree.now)) c.as_slice.ensures) c.in_ok-reached.ensures

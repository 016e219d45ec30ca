use Rattle.std.proofs.Common.{length, ap, ◌∙◌, arith}
use Rattle.std.specs.Prelude.{replicate, false}
use Rattle.finite_graphs.proofs.Lists.{at_here}
use Rattle.finite_graphs.proofs.Marking.{circles_done, marked_next, marked_none}
use Rattle.finite_graphs.proofs.RowLemmas.{read_within}
use Rattle.finite_graphs.proofs.circles.find_circles.Goals as goal

pub loop-edge-init : goal.loop-edge-init
loop-edge-init c = marked_none c.as_slice-labels.result.now c.args.graph.now.nodes c.in_ok-nodes.nodes c.new-edges.result (c.in_ok-nodes.ensures ∙ ap (λ n. replicate n false) c.nodes.ensures) c.new-edges.ensures

pub is_labelled_once-on_circle-requires-clause-from : goal.is_labelled_once-on_circle-requires-clause-from
is_labelled_once-on_circle-requires-clause-from c =
    let l = read_within c.edges-edge-items.result.now c.loop-edge.edge-index (record { from = 0; to = 0 }) c.loop-edge-test.true c.edges-edge-items.ensures.all c.edges-edge-items.ensures.within in
    let n = c.in_ok-labels.ensures.sized in let m = ap length c.as_slice-labels.ensures in omega (arith, l.0, n, m)

pub is_labelled_once-on_circle-requires-clause-to : goal.is_labelled_once-on_circle-requires-clause-to
is_labelled_once-on_circle-requires-clause-to c =
    let l = read_within c.edges-edge-items.result.now c.loop-edge.edge-index (record { from = 0; to = 0 }) c.loop-edge-test.true c.edges-edge-items.ensures.all c.edges-edge-items.ensures.within in
    let n = c.in_ok-labels.ensures.sized in let m = ap length c.as_slice-labels.ensures in omega (arith, l.1, n, m)

pub mark-requires : goal.mark-requires
mark-requires c =
    let l = read_within c.edges-edge-items.result.now c.loop-edge.edge-index (record { from = 0; to = 0 }) c.loop-edge-test.true c.edges-edge-items.ensures.all c.edges-edge-items.ensures.within in
    let n = c.loop-edge.invariant.nodes_sized in omega (arith, l.0, n)

pub loop-edge-preserved : goal.loop-edge-preserved
loop-edge-preserved c =
    let edges = c.edges-edge-items.result.now in
    let l = read_within edges c.loop-edge.edge-index (record { from = 0; to = 0 }) c.loop-edge-test.true c.edges-edge-items.ensures.all c.edges-edge-items.ensures.within in
    marked_next c.as_slice-labels.result.now c.args.graph.now.nodes edges c.loop-edge.edge-index _ c.is_labelled_once-on_circle.result c.mark.new.nodes c.push.new.self c.loop-edge-test.true
    (at_here edges c.loop-edge.edge-index (record { from = 0; to = 0 }) c.loop-edge-test.true) l.0 c.is_labelled_once-on_circle.ensures c.loop-edge.invariant c.mark.ensures c.in_ok-push.ensures.ok

pub returns : goal.returns
returns c = circles_done c.as_slice-labels.result.now c.loop-edge.edge-index c.in_ok-labels.ensures c.as_slice-labels.ensures c.edges-edge-items.ensures.all c.loop-edge-test.false c.edges-edge-items.ensures.within c.loop-edge.invariant

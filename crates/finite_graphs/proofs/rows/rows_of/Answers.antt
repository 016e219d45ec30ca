use Rattle.std.proofs.Common.{List, sym, subst, arith}
use Rattle.finite_graphs.specs.declared.edge.Edge.{Edge}
use Rattle.finite_graphs.specs.Graphs.{EdgesWithin}
use Rattle.finite_graphs.proofs.Lists.{at_here, at_in}
use Rattle.finite_graphs.proofs.RowLemmas.{all_rows, next_rows, no_rows, rows_within}
use Rattle.finite_graphs.proofs.rows.rows_of.Goals as goal

pub loop-edge-init : goal.loop-edge-init
loop-edge-init c = no_rows c.args.graph.now.nodes c.in_ok-rows.rows.items (rw (← c.nodes.ensures) c.in_ok-rows.ensures)

pub loop-edge-preserved : goal.loop-edge-preserved
loop-edge-preserved c =
    next_rows c.args.graph.now.nodes c.edges-edge-items.result.now c.loop-edge.edge-index _ c.loop-edge-test.true (at_here c.edges-edge-items.result.now c.loop-edge.edge-index _ c.loop-edge-test.true) c.loop-edge.invariant c.in_ok-add.ensures

pub add-requires : goal.add-requires
add-requires c =
    let edges = c.edges-edge-items.result.now in
    let here = at_here edges c.loop-edge.edge-index (record { from = 0; to = 0 }) c.loop-edge-test.true in
    let within = subst (λ (xs : List Edge). EdgesWithin c.args.graph.now.nodes xs) (sym c.edges-edge-items.ensures.all) c.edges-edge-items.ensures.within in
    let l = within.from _ (at_in here) in
    let n = c.loop-edge.invariant.sized in
    omega (arith, l, n)

pub returns-clause-rows : goal.returns-clause-rows
returns-clause-rows c = all_rows c.loop-edge.edge-index c.edges-edge-items.ensures.all c.loop-edge-test.false c.loop-edge.invariant

pub returns-clause-within : goal.returns-clause-within
returns-clause-within c = rows_within (all_rows c.loop-edge.edge-index c.edges-edge-items.ensures.all c.loop-edge-test.false c.loop-edge.invariant) c.edges-edge-items.ensures.within

use Rattle.std.proofs.Common.{arith}
use Rattle.finite_graphs.proofs.Ranking.{edges_in, labels_apart, parts_circle, parts_fall, parts_read, ranks_are}
use Rattle.finite_graphs.proofs.ranks.ranks_of.Goals as goal

pub has_circle-requires : goal.has_circle-requires
has_circle-requires c =
    let p = parts_read c.as_slice-rows.result.now c.as_slice-labels.result.now c.in_ok-rows.ensures.rows c.in_ok-rows.ensures.within c.as_slice-rows.ensures.value c.in_ok-labels.ensures c.as_slice-labels.ensures in
    edges_in p c.edges.result.now c.edges.ensures.all c.edges.ensures.within

pub returns-then-has_circle : goal.returns-then-has_circle
returns-then-has_circle c =
    let p = parts_read c.as_slice-rows.result.now c.as_slice-labels.result.now c.in_ok-rows.ensures.rows c.in_ok-rows.ensures.within c.as_slice-rows.ensures.value c.in_ok-labels.ensures c.as_slice-labels.ensures in
    parts_circle p c.edges.result.now c.edges.ensures.all c.if-has_circle.ensures.yes

pub order_of-requires-clause-apart : goal.order_of-requires-clause-apart
order_of-requires-clause-apart c =
    let p = parts_read c.as_slice-rows.result.now c.as_slice-labels.result.now c.in_ok-rows.ensures.rows c.in_ok-rows.ensures.within c.as_slice-rows.ensures.value c.in_ok-labels.ensures c.as_slice-labels.ensures in
    labels_apart p.rows_in p.labels_are (parts_fall p c.edges.result.now c.edges.ensures.all c.if-has_circle.ensures.no)

pub order_of-requires-clause-small : goal.order_of-requires-clause-small
order_of-requires-clause-small c =
    let p = parts_read c.as_slice-rows.result.now c.as_slice-labels.result.now c.in_ok-rows.ensures.rows c.in_ok-rows.ensures.within c.as_slice-rows.ensures.value c.in_ok-labels.ensures c.as_slice-labels.ensures in
    λ a l h. let small = p.labels_are.small a l h in let n = p.labels_are.sized in omega (arith, small, n)

pub ranks_along-requires-clause-labels : goal.ranks_along-requires-clause-labels
ranks_along-requires-clause-labels c =
    let p = parts_read c.as_slice-rows.result.now c.as_slice-labels.result.now c.in_ok-rows.ensures.rows c.in_ok-rows.ensures.within c.as_slice-rows.ensures.value c.in_ok-labels.ensures c.as_slice-labels.ensures in
    p.labels_are

pub ranks_along-requires-clause-falls : goal.ranks_along-requires-clause-falls
ranks_along-requires-clause-falls c =
    let p = parts_read c.as_slice-rows.result.now c.as_slice-labels.result.now c.in_ok-rows.ensures.rows c.in_ok-rows.ensures.within c.as_slice-rows.ensures.value c.in_ok-labels.ensures c.as_slice-labels.ensures in
    parts_fall p c.edges.result.now c.edges.ensures.all c.if-has_circle.ensures.no

pub returns : goal.returns
returns c =
    let p = parts_read c.as_slice-rows.result.now c.as_slice-labels.result.now c.in_ok-rows.ensures.rows c.in_ok-rows.ensures.within c.as_slice-rows.ensures.value c.in_ok-labels.ensures c.as_slice-labels.ensures in
    ranks_are p.rows_are p.labels_are c.in_ok-ranks.ensures

use Rattle.std.proofs.Common.{◌≡◌, true, get_or, refl}
use Rattle.finite_graphs.proofs.Lists.{at_here, at_in}
use Rattle.finite_graphs.proofs.Ranking.{none_end, none_init, none_more}
use Rattle.finite_graphs.proofs.RowLemmas.{read_within}
use Rattle.finite_graphs.proofs.ranks.has_circle.Goals as goal

pub loop-edge-init : goal.loop-edge-init
loop-edge-init c = none_init c.args.labels.now c.args.edges.now

pub is_labelled_once-requires-clause-from : goal.is_labelled_once-requires-clause-from
is_labelled_once-requires-clause-from c = let l = read_within c.args.edges.now c.loop-edge.edge-index (record { from = 0; to = 0 }) c.loop-edge-test.true refl c.requires in l.0

pub is_labelled_once-requires-clause-to : goal.is_labelled_once-requires-clause-to
is_labelled_once-requires-clause-to c = let l = read_within c.args.edges.now c.loop-edge.edge-index (record { from = 0; to = 0 }) c.loop-edge-test.true refl c.requires in l.1

pub loop-edge-preserved : goal.loop-edge-preserved
loop-edge-preserved c =
    none_more c.args.edges.now c.loop-edge.edge-index _ c.loop-edge-test.true (at_here c.args.edges.now c.loop-edge.edge-index (record { from = 0; to = 0 }) c.loop-edge-test.true) c.loop-edge.invariant
    (λ same. let t : c.is_labelled_once.result ≡ true = c.is_labelled_once.ensures.1 same in let f = c.if-is_labelled_once.false in cc)

pub returns-then-is_labelled_once-clause-yes : goal.returns-then-is_labelled_once-clause-yes
returns-then-is_labelled_once-clause-yes c =
    record {
      edge = get_or c.args.edges.now c.loop-edge.edge-index (record { from = 0; to = 0 });
      among = at_in (at_here c.args.edges.now c.loop-edge.edge-index (record { from = 0; to = 0 }) c.loop-edge-test.true);
      same = c.is_labelled_once.ensures.0 c.if-is_labelled_once.true;
    }

pub returns-clause-no : goal.returns-clause-no
returns-clause-no c = none_end c.args.edges.now c.loop-edge.edge-index c.loop-edge-test.false c.loop-edge.invariant

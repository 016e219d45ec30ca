use Rattle.finite_graphs.proofs.Lists.{at_read}
use Rattle.finite_graphs.proofs.RowLemmas.{row_grows}
use Rattle.finite_graphs.proofs.rows.add.Goals as goal

pub returns : goal.returns
returns c =
    row_grows c.args.rows.now.items c.args.at c.args.to c.index_mut.result.now (at_read c.args.rows.now.items c.args.at c.index_mut.result.now c.requires c.index_mut.ensures.value)
    c.push.new.self c.in_ok-push.ensures.ok

use Rattle.source_scopes.proofs.Filling.{entries_turn}
use Rattle.source_scopes.proofs.tables.with_copies.Goals as goal

pub loop-entry-preserved : goal.loop-entry-preserved
loop-entry-preserved c = entries_turn c.args.entries c.loop-entry.more _ c.args.others.now c.loop-entry.entry-index _ c.entry-item.result c.loop-entry-test.true c.entry-item.is
    c.in_ok-copy.ensures c.in_ok-more.ensures c.loop-entry.invariant

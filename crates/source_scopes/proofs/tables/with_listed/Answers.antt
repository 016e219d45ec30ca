use Rattle.source_scopes.specs.Entries.{renamed}
use Rattle.source_scopes.proofs.Filling.{listed_turn}
use Rattle.source_scopes.proofs.tables.with_listed.Goals as goal

pub loop-alias-preserved : goal.loop-alias-preserved
loop-alias-preserved c = listed_turn (renamed c.args.scope.now) c.args.entries c.loop-alias.more _ c.args.names.now c.loop-alias.alias-index _ c.alias-item.result c.loop-alias-test.true c.alias-item.is
    c.in_ok-renamed.ensures c.in_ok-more.ensures c.loop-alias.invariant

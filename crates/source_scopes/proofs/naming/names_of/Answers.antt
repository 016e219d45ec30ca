use Rattle.source_scopes.specs.Names.{named_as}
use Rattle.source_scopes.specs.Structs.{type_at}
use Rattle.source_scopes.proofs.Filling.{filtered_turn}
use Rattle.source_scopes.proofs.naming.names_of.Goals as goal

pub loop-entry-preserved : goal.loop-entry-preserved
loop-entry-preserved c = filtered_turn (named_as (type_at c.args.types.now)) c.loop-entry.names _ c.args.entries.now c.loop-entry.entry-index c.entry-item.result _ c.loop-entry-test.true c.entry-item.is
    c.in_ok-name.ensures c.in_ok-push_name.ensures c.loop-entry.invariant

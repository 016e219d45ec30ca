use Rattle.import_resolver.specs.Loaded.{rows_of}
use Rattle.source_scopes.proofs.Typing.{types_turn}
use Rattle.source_scopes.proofs.structs.types_in_order.Goals as goal

pub loop-number-preserved : goal.loop-number-preserved
loop-number-preserved c = types_turn (rows_of c.args.loaded.now) c.loop-number.number-index _ (c.in_ok-types-2.ensures c.loop-number.number-index c.loop-number.invariant)

use Rattle.import_resolver.specs.Loaded.{rows_of}
use Rattle.source_scopes.proofs.Filling.{tables_begin, tables_turn}
use Rattle.source_scopes.proofs.tables.tables_in_order.Goals as goal

pub loop-number-init : goal.loop-number-init
loop-number-init c = tables_begin (rows_of c.args.loaded.now) c.file_count.result c.in_ok-tables.tables c.file_count.ensures c.in_ok-tables.ensures

pub loop-number-preserved : goal.loop-number-preserved
loop-number-preserved c = tables_turn (rows_of c.args.loaded.now) c.loop-number.number-index _ (c.in_ok-tables-2.ensures c.loop-number.number-index c.loop-number.invariant)

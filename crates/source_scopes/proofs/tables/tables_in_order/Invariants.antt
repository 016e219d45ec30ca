use Rattle.import_resolver.specs.Loaded.{rows_of}
use Rattle.source_scopes.specs.Tables.{AreTables}
use Rattle.source_scopes.proofs.tables.tables_in_order.Given as goal

-- the files so far
abbrev pub invariant-loop-number : goal.invariant-loop-number
invariant-loop-number l = AreTables (rows_of l.loaded) l.number-index l.tables

use Rattle.std.proofs.Common.{sym, subst}
use Rattle.std.specs.Prelude.{length, slice_get, suc}
use Rattle.import_resolver.specs.Loaded.{rows_of}
use Rattle.source_scopes.specs.Shown.{source_parts}
use Rattle.source_scopes.specs.Tables.{AreTables, AsExported}
use Rattle.source_scopes.proofs.Filling.{filled, row_there, start_is}
use Rattle.source_scopes.proofs.tables.with_table.Goals as goal

pub returns : goal.returns
returns c = λ done are.
    subst (λ ts. AreTables (rows_of c.args.loaded.now) (suc done) ts) (sym c.set.ensures)
    (filled (rows_of c.args.loaded.now) c.args.tables done c.args.number c.in-Some.counts.now (source_parts c.in-Some-file_at.file.now) c.in_ok-table.table are
    (row_there (slice_get (rows_of c.args.loaded.now) c.args.number) (source_parts c.in-Some-file_at.file.now) c.in-Some-file_at.ensures)
    (start_is (rows_of c.args.loaded.now) (length (rows_of c.args.loaded.now)) c.args.number c.args.starts.now c.in-Some.counts.now c.requires c.in-Some.ensures)
    (λ exports known. c.in_ok-table.ensures exports (subst (λ ts. AsExported exports ts) (sym c.as_slice.ensures) known)))

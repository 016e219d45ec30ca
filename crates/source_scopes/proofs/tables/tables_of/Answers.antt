use Rattle.std.specs.Prelude.{length}
use Rattle.std.proofs.Common.{rules, ap, subst, arith}
use Rattle.import_resolver.specs.Loaded.{rows_of}
use Rattle.source_scopes.specs.Tables.{AllDone}
use Rattle.source_scopes.proofs.Filling.{all_there}
use Rattle.source_scopes.proofs.tables.tables_of.Goals as goal

pub returns : goal.returns
returns c = all_there (rows_of c.args.loaded.now) c.in_ok-tables.tables (length c.as_slice-2.result.now) c.in_ok-tables.ensures
    (omega (arith, ap length c.as_slice-2.ensures, c.len.ensures, c.file_count.ensures, c.if-len-file_count.false))
    (subst (λ ts. AllDone ts) c.as_slice-3.ensures (c.all_done.ensures (search rules)))

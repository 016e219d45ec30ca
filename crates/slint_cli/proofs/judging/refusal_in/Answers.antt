use Rattle.std.proofs.Common.{None, Some, sym}
use Rattle.import_resolver.specs.Loaded.{row_of, rows_of}
use Rattle.slint_cli.proofs.Judged.{refused_by_row, row_found}
use Rattle.slint_cli.proofs.judging.refusal_in.Goals as goal

pub refusal_at-requires : goal.refusal_at-requires
refusal_at-requires c =
    let row = row_found c.args.loaded.now.files.entries c.args.fault.span.file (Some (c.in-Some.name.now, c.in-Some.file.now)) (sym c.in-Some.ensures.entry) in
    record { few = c.requires.few c.args.fault.span.file (row_of (c.in-Some.name.now, c.in-Some.file.now)) row }

pub returns-in-Some : goal.returns-in-Some
returns-in-Some c =
    let row = row_found c.args.loaded.now.files.entries c.args.fault.span.file (Some (c.in-Some.name.now, c.in-Some.file.now)) (sym c.in-Some.ensures.entry) in
    refused_by_row c.args.main.now (rows_of c.args.loaded.now) c.args.fault (Some (row_of (c.in-Some.name.now, c.in-Some.file.now))) c.refusal_at.result row (rw c.as_str.ensures.value at c.refusal_at.ensures)

pub returns-in-None : goal.returns-in-None
returns-in-None c =
    let row = row_found c.args.loaded.now.files.entries c.args.fault.span.file None (sym c.in-None.ensures.entry) in
    refused_by_row c.args.main.now (rows_of c.args.loaded.now) c.args.fault None c.at_main.result row c.at_main.ensures

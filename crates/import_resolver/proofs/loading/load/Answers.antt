use Rattle.std.proofs.Common.{◌≡◌, refl, sym, ap, ◌∙◌, subst}
use Rattle.std.specs.Prelude.{⊤}
use Rattle.std.proofs.lemmas.Result.{err_from_is_err_and}
use Rattle.import_resolver.specs.declared.loaded.Loaded.{Loaded}
use Rattle.import_resolver.proofs.LoadSteps.{count-err}
use Rattle.import_resolver.proofs.WholeLoad.{IsEmpty, load-ended, load-memory, load-went, load-meant, main-below, right-empty, unopened-empty}
use Rattle.import_resolver.proofs.loading.load.Goals as goal

pub load_whole-requires : goal.load_whole-requires
load_whole-requires g c =
    let empty : IsEmpty c.new-table.result = record { files = c.new-table.ensures.files; done = c.new-table.ensures.done; loading = c.new-table.ensures.loading } in
    record { right = right-empty _ _ empty; below = main-below _; unopened = unopened-empty _ _ empty; asked = tt }

pub returns-in_err-load_whole-clause-loads : goal.returns-in_err-load_whole-clause-loads
returns-in_err-load_whole-clause-loads g c =
    let empty : IsEmpty c.new-table.result = record { files = c.new-table.ensures.files; done = c.new-table.ensures.done; loading = c.new-table.ensures.loading } in
    let p = err_from_is_err_and c.from_residual.result c.from_residual.ensures.1 in
    rw (p.1, p.2) (load-ended _ _ _ _ c.in_err-load_whole.field-0.0 empty c.in_err-load_whole.ensures.ended)

pub returns-in_err-load_whole-clause-counted : goal.returns-in_err-load_whole-clause-counted
returns-in_err-load_whole-clause-counted g c =
    let p = err_from_is_err_and c.from_residual.result c.from_residual.ensures.1 in
    rw (p.1, p.2) (count-err ⊤ Loaded c.in_err-load_whole.field-0.0 _ _ _ _ c.in_err-load_whole.ensures.counted)

pub of_table-requires : goal.of_table-requires
of_table-requires g c =
    let empty : IsEmpty c.new-table.result = record { files = c.new-table.ensures.files; done = c.new-table.ensures.done; loading = c.new-table.ensures.loading } in
    let went = c.in_ok-load_whole.ensures.ended in record {
      few = went.right.few;
      below = went.right.below;
      once = went.right.once;
      meant = load-meant (g.F.Files.held c.args.files.now) c.args.name.now c.new-table.result c.load_whole.new.table empty went;
    }

pub returns-in_err-of_table-clause-loads : goal.returns-in_err-of_table-clause-loads
returns-in_err-of_table-clause-loads g c =
    let p = err_from_is_err_and c.from_residual-in_err-of_table.result c.from_residual-in_err-of_table.ensures.1 in
    rw (p.1, p.2) (load-memory (g.F.Files.held c.args.files.now) c.args.name.now)

pub returns-in_err-of_table-clause-counted : goal.returns-in_err-of_table-clause-counted
returns-in_err-of_table-clause-counted g c =
    let p = err_from_is_err_and c.from_residual-in_err-of_table.result c.from_residual-in_err-of_table.ensures.1 in
    rw (p.1, p.2) c.in_ok-load_whole.ensures.counted.0

pub returns-clause-loads : goal.returns-clause-loads
returns-clause-loads g c =
    let empty : IsEmpty c.new-table.result = record { files = c.new-table.ensures.files; done = c.new-table.ensures.done; loading = c.new-table.ensures.loading } in
    load-went _ _ _ _ c.in_ok-of_table.field-0 empty c.in_ok-load_whole.ensures.ended c.in_ok-of_table.ensures

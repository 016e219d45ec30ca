use Rattle.std.specs.Option.{option_copied}
use Rattle.std.specs.Prelude.{slice_get}
use Rattle.std.proofs.Common.{◌∙◌, ap}
use Rattle.import_resolver.specs.Loaded.{rows_of}
use Rattle.source_scopes.specs.Structs.{type_known}
use Rattle.source_scopes.specs.Tables.{entries_in, scope_in}
use Rattle.source_scopes.specs.Types.{type_by, type_written}
use Rattle.source_scopes.proofs.Typing.{written_same}
use Rattle.source_scopes.proofs.Whole.{scope_whole}
use Rattle.source_scopes.proofs.scopes.Scopes.written_type.Goals as goal

pub returns : goal.returns
returns c =
    c.in_ok-made.ensures ∙ ap (λ ts. type_by (type_known ts (entries_in (option_copied c.scope_in-scope.result))) c.args.ty.now) c.as_slice-2.ensures
    ∙ written_same (rows_of c.self.inside.loaded.now) c.self.inside.types c.args.file (entries_in (option_copied c.scope_in-scope.result)) c.args.ty.now c.self.invariant.typed
    (c.scope_in-scope.ensures ∙ ap (λ ts. scope_in (slice_get ts c.args.file)) c.as_slice.ensures ∙ scope_whole (rows_of c.self.inside.loaded.now) c.self.inside.tables c.args.file c.self.invariant.whole)
    ∙ ap (λ rows. type_written rows c.args.file c.args.ty.now) c.self.view_is

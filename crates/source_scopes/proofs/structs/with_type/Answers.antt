use Rattle.std.specs.Prelude.{slice_get, suc}
use Rattle.std.proofs.Common.{◌∙◌, ap, sym, subst}
use Rattle.import_resolver.specs.Loaded.{rows_of}
use Rattle.source_scopes.specs.Declarations.{structs_of}
use Rattle.source_scopes.specs.Structs.{AreTyped, type_at}
use Rattle.source_scopes.specs.Types.{struct_at}
use Rattle.source_scopes.proofs.Typing.{typed_next, typed_still}
use Rattle.source_scopes.proofs.structs.with_type.Goals as goal

pub returns-then-number-len : goal.returns-then-number-len
returns-then-number-len c = λ done are. typed_still (rows_of c.args.loaded.now) c.args.types done are

pub returns : goal.returns
returns c = λ done are. subst (λ ts. AreTyped (rows_of c.args.loaded.now) (suc done) ts) (sym c.set.ensures)
    (typed_next (rows_of c.args.loaded.now) c.args.types done c.args.number c.in_ok-ty.ty are
    (c.in_ok-ty.ensures ∙ ap (λ ts. struct_at (type_at ts) (rows_of c.args.loaded.now) (slice_get (structs_of (rows_of c.args.loaded.now)) c.args.number)) c.as_slice.ensures))

use Rattle.std.specs.Prelude.{slice_get, Some, None}
use Rattle.std.proofs.Common.{sym, ◌∙◌, ap}
use Rattle.typed_tree.specs.Files.{declared_among}
use Rattle.source_scopes.specs.Naming.{declared_in}
use Rattle.source_scopes.proofs.Lookups.{declared_at}
use Rattle.source_scopes.proofs.naming.FileNames.declared.Goals as goal

pub returns-in-Some : goal.returns-in-Some
returns-in-Some c = c.declared_at.ensures ∙ ap (λ names. declared_in (slice_get names c.in-Some.place)) c.as_slice.ensures
    ∙ declared_at c.args.name.now c.self.inside.index c.self.inside.names (Some c.in-Some.place) c.self.invariant (sym c.first.ensures ∙ c.in-Some.is)
    ∙ ap (declared_among c.args.name.now) c.self.view_is

pub returns-in-None : goal.returns-in-None
returns-in-None c = declared_at c.args.name.now c.self.inside.index c.self.inside.names None c.self.invariant (sym c.first.ensures ∙ c.in-None.is)
    ∙ ap (declared_among c.args.name.now) c.self.view_is
